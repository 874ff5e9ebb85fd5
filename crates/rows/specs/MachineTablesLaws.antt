-- Each table of the machine among the lent words: its first word, words a row, rows.
use Rattle.std.specs.Prelude.{◌≡◌, refl, List, [], ◌∷◌, ℕ, ◌+◌, ◌*◌, get_or}
use Rattle.std.proofs.Common.{ap, ◌∙◌, arith}
use Rattle.model.specs.declared.Pool.{Pool}
use Rattle.model.specs.Layout.{process_row, region_row, order_row, mapping_row, entry_row, backing_row, pool_row, file_row, process_words, region_words, mapping_words, entry_words, backing_words, file_words}
use Rattle.rows.specs.WordTableLaws.{TableAt}

-- the words of a row that is one number, and of the pool
abbrev pub number_words : ℕ → List ℕ
number_words n = n ∷ []

abbrev pub pool_words : Pool → List ℕ
pool_words q = q.free ∷ q.next.0 ∷ []

-- a table of one row
abbrev pub pool_rows : List ℕ → ℕ → Pool
pool_rows w i = pool_row w

abbrev pub word_rows : ℕ → List ℕ → ℕ → ℕ
word_rows x w i = get_or w x 0

-- a word known at one number, read at an equal one
moved : (w : List ℕ) (x y : ℕ) {z : ℕ} → x ≡ y → get_or w y 0 ≡ z → get_or w x 0 ≡ z
moved w x y e p = ap (λ (n : ℕ). get_or w n 0) e ∙ p

pub process_table : TableAt process_words process_row 0 5 8
unfolding process_row
process_table = record {
  shape = λ g. record { opened = g 0; start = record { 0 = g 1 }; size = g 2; attached = g 3; mapped = g 4 };
  makes = λ w i h g p. λ t. record { opened = moved w (i * 5) (0 + i * 5) (omega arith) (p 0 refl) t; start = record { 0 = moved w (i * 5 + 1) (0 + i * 5 + 1) (omega arith) (p 1 refl) t }; size = moved w (i * 5 + 2) (0 + i * 5 + 2) (omega arith) (p 2 refl) t; attached = moved w (i * 5 + 3) (0 + i * 5 + 3) (omega arith) (p 3 refl) t; mapped = moved w (i * 5 + 4) (0 + i * 5 + 4) (omega arith) (p 4 refl) t };
  whole = λ a. refl;
  sized = λ a. refl;
}

pub region_table : TableAt region_words region_row 40 12 512
unfolding region_row
region_table = record {
  shape = λ g. record { kind = g 0; start = record { 0 = g 1 }; size = g 2; flags = record { 0 = g 3 }; fork = g 4; per_thread = g 5; pins = g 6; file = g 7; offset = g 8; length = g 9; ranged = g 10; range = record { 0 = g 11 } };
  makes = λ w i h g p. λ t. record { kind = p 0 refl t; start = record { 0 = p 1 refl t }; size = p 2 refl t; flags = record { 0 = p 3 refl t }; fork = p 4 refl t; per_thread = p 5 refl t; pins = p 6 refl t; file = p 7 refl t; offset = p 8 refl t; length = p 9 refl t; ranged = p 10 refl t; range = record { 0 = p 11 refl t } };
  whole = λ a. refl;
  sized = λ a. refl;
}

pub mapping_table : TableAt mapping_words mapping_row 6696 3 1024
unfolding mapping_row
mapping_table = record {
  shape = λ g. record { page = record { 0 = g 0 }; frame = record { 0 = g 1 }; flags = record { 0 = g 2 } };
  makes = λ w i h g p. λ t. record { page = record { 0 = p 0 refl t }; frame = record { 0 = p 1 refl t }; flags = record { 0 = p 2 refl t } };
  whole = λ a. refl;
  sized = λ a. refl;
}

pub entry_table : TableAt entry_words entry_row 9768 3 512
unfolding entry_row
entry_table = record {
  shape = λ g. record { owner = g 0; page = record { 0 = g 1 }; frame = record { 0 = g 2 } };
  makes = λ w i h g p. λ t. record { owner = p 0 refl t; page = record { 0 = p 1 refl t }; frame = record { 0 = p 2 refl t } };
  whole = λ a. refl;
  sized = λ a. refl;
}

pub backing_table : TableAt backing_words backing_row 11304 2 256
unfolding backing_row
backing_table = record {
  shape = λ g. record { len = g 0; holders = g 1 };
  makes = λ w i h g p. λ t. record { len = p 0 refl t; holders = p 1 refl t };
  whole = λ a. refl;
  sized = λ a. refl;
}

pub pool_table : TableAt pool_words pool_rows 11816 2 1
unfolding pool_row
pool_table = record {
  shape = λ g. record { free = g 0; next = record { 0 = g 1 } };
  makes = λ w i h g p. λ t. record { free = moved w 11816 (11816 + i * 2) (omega arith) (p 0 refl) t; next = record { 0 = moved w 11817 (11816 + i * 2 + 1) (omega arith) (p 1 refl) t } };
  whole = λ a. refl;
  sized = λ a. refl;
}

pub file_table : TableAt file_words file_row 11818 3 8
unfolding file_row
file_table = record {
  shape = λ g. record { readable = g 0; offset = g 1; len = g 2 };
  makes = λ w i h g p. λ t. record { readable = p 0 refl t; offset = p 1 refl t; len = p 2 refl t };
  whole = λ a. refl;
  sized = λ a. refl;
}

pub order_table : TableAt number_words order_row 6184 1 512
unfolding order_row
order_table = record {
  shape = λ g. g 0;
  makes = λ w i h g p. moved w (6184 + i) (6184 + i * 1) (omega arith) (p 0 refl);
  whole = λ a. refl;
  sized = λ a. refl;
}

-- the number at word x
pub word_table : (x : ℕ) → TableAt number_words (word_rows x) x 1 1
word_table x = record {
  shape = λ g. g 0;
  makes = λ w i h g p. moved w x (x + i * 1) (omega arith) (p 0 refl);
  whole = λ a. refl;
  sized = λ a. refl;
}

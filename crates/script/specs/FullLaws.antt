-- A list made of so many has so many. Stated for any number, so that no long list is ever computed.
use Rattle.std.specs.Prelude.{◌≡◌, ℕ, length, replicate}
use Rattle.std.proofs.Common.{sym}
use Rattle.std.proofs.lemmas.List.{length-replicate}

pub full : (n x : ℕ) → n ≡ length (replicate n x)
full n x = sym (length-replicate n x)

-- Laws: the page entry of a page that gets another frame, step by step.
use Rattle.std.specs.Prelude.{◌≡◌, true, ℕ, ◌<◌, get_or, set, Option, Some, None}
use Rattle.std.proofs.Math.Path.{ap}
use Rattle.std.proofs.Common.{sym, subst, ◌∙◌}
use Rattle.model.specs.declared.Entry.{Entry}
use Rattle.model.specs.Machine.{Machine, with_entries, no_entry}
use Rattle.model.specs.Lookup.{free_entry, is_found}
use Rattle.model.specs.Backing.{entry_for, add_entry}
use Rattle.backing.specs.BackingSteps.{released}
use Rattle.fault_own.specs.Entered.{entry_row, EntryReady, with_entry, re_entry_by}

module _ (m : Machine) (row page f : ℕ) where
  pub ready_none : (x : Option ℕ) → x ≡ entry_for m row page → x ≡ None → EntryReady m (entry_for m row page) → is_found (free_entry m) ≡ true
  ready_none x e g h = subst (λ (y : Option ℕ). EntryReady m y) (sym e ∙ g) h

  pub ready_at : (x : Option ℕ) → x ≡ entry_for m row page → (i : ℕ) → x ≡ Some i → EntryReady m (entry_for m row page) → (o : Entry) → o ≡ get_or m.entries i no_entry → o.frame.0 < 256
  ready_at x e i g h o r = subst (λ (y : Entry). y.frame.0 < 256) (sym r) (subst (λ (y : Option ℕ). EntryReady m y) (sym e ∙ g) h)

  pub entered_none : (x : Option ℕ) → x ≡ entry_for m row page → x ≡ None → (n : Machine) → n ≡ add_entry m row page f → n ≡ re_entry_by m row page f (entry_for m row page)
  entered_none x e g n k = k ∙ ap (λ (y : Option ℕ). re_entry_by m row page f y) (sym g ∙ e)

  pub entered_at : (x : Option ℕ) → x ≡ entry_for m row page → (i : ℕ) → x ≡ Some i → (o : Entry) → o ≡ get_or m.entries i no_entry → (n : Machine) → n ≡ released m o.frame.0 → (k : Machine) → k ≡ with_entries n (set n.entries i (entry_row row page f)) → k ≡ re_entry_by m row page f (entry_for m row page)
  entered_at x e i g o r n a k b =
      b
      ∙ ap (λ (y : Machine). with_entry y i (entry_row row page f)) (a ∙ ap (λ (y : Entry). released m y.frame.0) r)
      ∙ ap (λ (y : Option ℕ). re_entry_by m row page f y) (sym g ∙ e)

-- No second outcome: a line that is put settles how far the output is filled, and every byte of it.
use mathlib.Core.Path.{◌≡◌, sym, ap, ◌∙◌}
use mathlib.Core.List.{List, ◌++◌}
use Prim.Native.Nat.{ℕ, ◌+◌}
use lib.ListN.{length, take, drop, take-append-drop}
use Rattle.plain.proofs.Logic.{cut}
use Rattle.listing_lines.specs.Puts.{Laid, Puts}

module _ (at : ℕ) (text o : List ℕ) (r s : ℕ) (x y : List ℕ) where
  laid_one : Laid at text o r x → Laid at text o s y → (r ≡ s) × (x ≡ y)
  laid_one v w =
      let same : r ≡ s = v.0 ∙ sym w.0 in
      let front : take r x ≡ take r y = v.1 ∙ sym w.1 ∙ ap (λ (k : ℕ). take k y) (sym same) in
      let rest : drop r x ≡ drop r y = v.2 ∙ ap (λ (k : ℕ). drop k o) same ∙ sym w.2 ∙ ap (λ (k : ℕ). drop k y) (sym same) in
      (same, sym (take-append-drop r x) ∙ ap (λ (l : List ℕ). l ++ drop r x) front ∙ ap (λ (l : List ℕ). take r y ++ l) rest ∙ take-append-drop r y)

  -- THEOREM
  pub puts_one : (room : ℕ) → Puts room at text o r x → Puts room at text o s y → (r ≡ s) × (x ≡ y)
  puts_one room v w =
      cut (length o) (at + room)
      (λ l. ((v.1 l).0 ∙ sym (w.1 l).0, (v.1 l).1 ∙ sym (w.1 l).1))
      (λ l. laid_one (v.0 l).1 (w.0 l).1)

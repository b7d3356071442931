-- What a field asks for, by its tag and length.
use mathlib.Core.Path.{◌≡◌, ap, ◌∙◌}
use mathlib.Core.Bool.{Bool, false, not, cond}
use mathlib.Core.List.{List, [], ◌∷◌}
use Prim.Native.Nat.{ℕ, ◌≤◌, ◌<◌}
use lib.Dec.{ltb, eqb}
use lib.ListN.{length, drop}
use borrow.Author.Tests.{eq-eqb, ne_eqb, lt-ltb, le-ltb}
use Rattle.plain.specs.Outcome.{Outcome.value, Outcome.refused, ruled}
use Rattle.plain_calls.specs.Calls.{Call, Call.insert, Call.remove, Call.set_mark}
use Rattle.octets.specs.Big.{four_at}
use Rattle.plain_journal.specs.Fields.{asked}

-- one rule decides
rule : (c : Call) (t u : Bool) → t ≡ u → ruled ((10, t) ∷ []) c ≡ cond u (refused 10) (value c)
unfolding ruled
rule c t u e = ap (λ (x : Bool). cond x (refused 10) (value c)) e

module _ (b : List ℕ) where
  pub asks-insert : 4 ≤ length b → asked 1 b ≡ value (insert (four_at b 0) (drop 4 b))
  unfolding asked
  asks-insert h = rule (insert (four_at b 0) (drop 4 b)) (ltb (length b) 4) false (le-ltb (length b) 4 h)

  pub bad-insert : length b < 4 → asked 1 b ≡ refused 10
  unfolding asked
  bad-insert h = rule (insert (four_at b 0) (drop 4 b)) (ltb (length b) 4) _ (lt-ltb (length b) 4 h)

  pub asks-remove : length b ≡ 8 → asked 2 b ≡ value (remove (four_at b 0) (four_at b 4))
  unfolding asked
  asks-remove e = rule (remove (four_at b 0) (four_at b 4)) (not (eqb (length b) 8)) _ (ap not (eq-eqb (length b) 8 e))

  pub bad-remove : (length b ≡ 8 → ⊥) → asked 2 b ≡ refused 10
  unfolding asked
  bad-remove ne = rule (remove (four_at b 0) (four_at b 4)) (not (eqb (length b) 8)) _ (ap not (ne_eqb (length b) 8 ne))

  pub asks-mark : length b ≡ 4 → asked 3 b ≡ value (set_mark (four_at b 0))
  unfolding asked
  asks-mark e = rule (set_mark (four_at b 0)) (not (eqb (length b) 4)) _ (ap not (eq-eqb (length b) 4 e))

  pub bad-mark : (length b ≡ 4 → ⊥) → asked 3 b ≡ refused 10
  unfolding asked
  bad-mark ne = rule (set_mark (four_at b 0)) (not (eqb (length b) 4)) _ (ap not (ne_eqb (length b) 4 ne))

  pub bad-tag : (t : ℕ) → (t ≡ 1 → ⊥) → (t ≡ 2 → ⊥) → (t ≡ 3 → ⊥) → asked t b ≡ refused 10
  unfolding asked
  bad-tag t f g h =
      ap (λ (x : Bool). cond x (ruled ((10, ltb (length b) 4) ∷ []) (insert (four_at b 0) (drop 4 b))) (cond (eqb t 2) (ruled ((10, not (eqb (length b) 8)) ∷ []) (remove (four_at b 0) (four_at b 4))) (cond (eqb t 3) (ruled ((10, not (eqb (length b) 4)) ∷ []) (set_mark (four_at b 0))) (refused 10)))) (ne_eqb t 1 f)
      ∙ ap (λ (x : Bool). cond x (ruled ((10, not (eqb (length b) 8)) ∷ []) (remove (four_at b 0) (four_at b 4))) (cond (eqb t 3) (ruled ((10, not (eqb (length b) 4)) ∷ []) (set_mark (four_at b 0))) (refused 10))) (ne_eqb t 2 g)
      ∙ ap (λ (x : Bool). cond x (ruled ((10, not (eqb (length b) 4)) ∷ []) (set_mark (four_at b 0))) (refused 10)) (ne_eqb t 3 h)

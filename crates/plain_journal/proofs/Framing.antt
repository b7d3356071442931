-- The laws of framing: what the fields of an input are by the field at its front, and that bytes behind a whole field change nothing of it.
use mathlib.Core.Path.{◌≡◌, refl, sym, ap, ◌∙◌}
use mathlib.Core.Bool.{Bool, true, false, cond}
use mathlib.Core.List.{List, [], ◌∷◌, ◌++◌}
use Prim.Native.Nat.{ℕ, zero, suc, ◌+◌, ◌-◌, ◌≤◌}
use native.Mathlib.Omega.{arith}
use lib.Dec.{eqb}
use lib.ListN.{length, drop, length-drop}
use lib.Seq.{drop-length}
use borrow.Author.Tests.{eq-eqb, ne_eqb}
use Rattle.plain.specs.Outcome.{Outcome, Outcome.value, Outcome.refused}
use Rattle.plain_calls.specs.Calls.{Call}
use Rattle.framing.specs.Field.{is_whole, tag_of, body_of, behind}
use Rattle.framing.proofs.Field.{three-bytes, whole_le, more-whole, more-tag, more-body, more-behind, front, front_long, front_bytes, front-whole, front-all}
use Rattle.plain_journal.specs.Fields.{asked, before, framed, fields_of}

-- ── the fields of an input ──

abbrev opening : List ℕ → List (Outcome Call) → List (Outcome Call)
opening s fs = cond (eqb (length s) 0) [] (cond (is_whole s) (before (asked (tag_of s) (body_of s)) fs) (refused 10 ∷ []))

-- enough is enough
framed-enough : (f g : ℕ) (s : List ℕ) → length s ≤ f → length s ≤ g → framed f s ≡ framed g s
unfolding framed
framed-enough zero zero s h i = refl
framed-enough zero (suc g) s h i = sym (ap (λ (t : Bool). cond t [] (cond (is_whole s) (before (asked (tag_of s) (body_of s)) (framed g (behind s))) (refused 10 ∷ []))) (eq-eqb (length s) 0 (omega arith)))
framed-enough (suc f) zero s h i = ap (λ (t : Bool). cond t [] (cond (is_whole s) (before (asked (tag_of s) (body_of s)) (framed f (behind s))) (refused 10 ∷ []))) (eq-eqb (length s) 0 (omega arith))
framed-enough (suc f) (suc g) s h i =
    ap (opening s) (framed-enough f g (behind s) (simp length-drop (omega (arith, three-bytes s))) (simp length-drop (omega (arith, three-bytes s))))

fields_open : (s : List ℕ) → fields_of s ≡ opening s (fields_of (behind s))
unfolding framed fields_of
fields_open s =
    framed-enough (length s) (suc (length s)) s (omega arith) (omega arith)
    ∙ ap (opening s) (framed-enough (length s) (length (behind s)) (behind s) (simp length-drop (omega arith)) (omega arith))

-- THEOREM: nothing, a cut field, a whole field.
pub fields-none : (s : List ℕ) → length s ≡ 0 → fields_of s ≡ []
fields-none s e = fields_open s ∙ ap (λ (t : Bool). cond t [] (cond (is_whole s) (before (asked (tag_of s) (body_of s)) (fields_of (behind s))) (refused 10 ∷ []))) (eq-eqb (length s) 0 e)

module _ (s : List ℕ) where
  some : (length s ≡ 0 → ⊥) → fields_of s ≡ cond (is_whole s) (before (asked (tag_of s) (body_of s)) (fields_of (behind s))) (refused 10 ∷ [])
  some ne = fields_open s ∙ ap (λ (t : Bool). cond t [] (cond (is_whole s) (before (asked (tag_of s) (body_of s)) (fields_of (behind s))) (refused 10 ∷ []))) (ne_eqb (length s) 0 ne)

  pub fields-cut : (length s ≡ 0 → ⊥) → is_whole s ≡ false → fields_of s ≡ refused 10 ∷ []
  fields-cut ne w = some ne ∙ ap (λ (t : Bool). cond t (before (asked (tag_of s) (body_of s)) (fields_of (behind s))) (refused 10 ∷ [])) w

  pub fields-whole : is_whole s ≡ true → fields_of s ≡ before (asked (tag_of s) (body_of s)) (fields_of (behind s))
  fields-whole w =
      some (λ e. omega (arith, whole_le s w, three-bytes s))
      ∙ ap (λ (t : Bool). cond t (before (asked (tag_of s) (body_of s)) (fields_of (behind s))) (refused 10 ∷ [])) w

-- ── more bytes behind a whole field, and the field alone ──

module _ (s more : List ℕ) (w : is_whole s ≡ true) where
  -- THEOREM: whatever comes behind it, the field at the front is the same.
  pub fields-more : fields_of (s ++ more) ≡ before (asked (tag_of s) (body_of s)) (fields_of (behind s ++ more))
  fields-more = fields-whole (s ++ more) (more-whole s more w) ∙ cc (more-tag s more w, more-body s more w, more-behind s more w)

module _ (s : List ℕ) (w : is_whole s ≡ true) where
  front-asks : asked (tag_of (front s w)) (body_of (front s w)) ≡ asked (tag_of s) (body_of s)
  front-asks =
      sym (cc (more-tag (front s w) (behind s) (front-whole s w), more-body (front s w) (behind s) (front-whole s w)))
      ∙ ap (λ (l : List ℕ). asked (tag_of l) (body_of l)) (front-all s w)

  -- THEOREM: its bytes, with more behind them, are this field and then the fields of those.
  pub fields-front : (more : List ℕ) → fields_of (front s w ++ more) ≡ before (asked (tag_of s) (body_of s)) (fields_of more)
  fields-front more =
      let none : behind (front s w) ≡ [] = ap (λ (n : ℕ). drop n (front s w)) ((front_bytes s w) ∙ sym (front_long s w)) ∙ drop-length (front s w) in
      fields-more (front s w) more (front-whole s w) ∙ cc (front-asks, none)

-- ── no more fields than bytes ──

before-le : (f : Outcome Call) (fs : List (Outcome Call)) → length (before f fs) ≤ 1 + length fs
before-le (value c) fs = omega arith
before-le (refused q) fs = omega arith

framed-le : (k : ℕ) (s : List ℕ) → length (framed k s) ≤ k
unfolding framed
framed-le zero s = omega arith
framed-le (suc k) s = go (framed-le k (behind s)) (eqb (length s) 0) (is_whole s)
  where
    go : length (framed k (behind s)) ≤ k → (t u : Bool) → length (cond t [] (cond u (before (asked (tag_of s) (body_of s)) (framed k (behind s))) (refused 10 ∷ []))) ≤ suc k
    go h true u = omega arith
    go h false true = omega (arith, before-le (asked (tag_of s) (body_of s)) (framed k (behind s)))
    go h false false = omega arith

pub fields_le : (s : List ℕ) → length (fields_of s) ≤ length s
unfolding fields_of
fields_le s = framed-le (length s) s

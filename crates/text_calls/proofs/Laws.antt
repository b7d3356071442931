-- An answer by its call, a truth as a number, a seam by its cut, and a part by its length.
use mathlib.Core.Path.{◌≡◌, refl, sym, ap, ◌∙◌}
use mathlib.Core.Bool.{Bool, true, false, cond, ◌||◌}
use mathlib.Core.List.{List, ◌++◌}
use Prim.Native.Nat.{ℕ, ◌-◌, ◌<◌}
use native.Mathlib.Omega.{arith}
use lib.Dec.{eqb, ltb}
use lib.ListN.{length, get_or, take, drop, length-drop}
use mir.Val.{bool_byte}
use Rattle.plain.specs.Chars.{encode}
use Rattle.plain.specs.Count.{bit, trimmed}
use Rattle.plain.specs.Place.{bytes}
use Rattle.plain.specs.Outcome.{Outcome, Outcome.value, Outcome.refused, part}
use Rattle.crlf.specs.Break.{at_seam, is_break}
use Rattle.crlf.proofs.Laws.{seam-right}
use Rattle.str_utils.specs.Helpers.{of_text}
use Rattle.str_utils.proofs.Laws.{text-too}
use Rattle.answer.specs.Answers.{refusal_number, Answer, outcome}
use Rattle.answer.specs.declared.Refusal.{Refusal}
use Rattle.std.specs.Prelude.{Ok, Err, Option, Some, None, MatchOption}
use Rattle.std.specs.Option.{ok_or}
use Rattle.std.specs.List.{IsSplitAt}
use Rattle.text_calls.specs.Asked.{counted, seam_at, asked, calls, named, asked_by}
use Rattle.text_calls.specs.declared.Call.{Call}
use Rattle.text_calls.specs.declared.Call.TheVariants.{IsBreak}

-- the answer of the call that is asked
pub by_call : (k j : Call) (i : ℕ) (left : Bool) (s : List ℕ) (o : Outcome ℕ) → k ≡ j → o ≡ asked j i left s → o ≡ asked k i left s
by_call k j i left s o e f = f ∙ sym (ap (λ (x : Call). asked x i left s) e)

pub truth-is : (t u : Bool) → t ≡ u → bool_byte t ≡ bit u
truth-is t u e = is t ∙ ap bit e
  where
    is : (t : Bool) → bool_byte t ≡ bit t
    is true = refl
    is false = refl

-- ── what a look-up found, or the refusal in its place ──

module _ {X : Type 0} (P : X → Type 0) (Q : Type 0) (q : Refusal) where
  pub found : (o : Option X) {r : Answer X} (x : X) → MatchOption o Q P → r ≡ ok_or o q → r ≡ Ok x → P x
  found (Some y) x h e f = let z : y ≡ x = cc in rw z at h
  found None x h e f = absurd (let z : ◌≡◌ {A = ℕ} 0 1 = cc in omega arith)

  pub missed : (o : Option X) {r : Answer X} (p : Refusal) → MatchOption o Q P → r ≡ ok_or o q → r ≡ Err p → (p ≡ q) × Q
  missed (Some y) p h e f = absurd (let z : ◌≡◌ {A = ℕ} 0 1 = cc in omega arith)
  missed None p h e f = (let z : p ≡ q = cc in z, h)

-- ── a cut ──

-- past the end the right side is empty
pub seam-past : (i : ℕ) (s : List ℕ) → length s < i → refused 12 ≡ seam_at i s
unfolding seam_at
seam-past i s h =
    let none : length (drop i s) ≡ 0 = omega (arith, length-drop i s) in
    ap counted (seam-right (take i s) (drop i s) (is_break (take i s ++ drop i s) (length (take i s))) none)

-- up to the end the two sides are those of the cut
pub seam-cut : (i : ℕ) (s l r : List ℕ) (o : Outcome Bool) → IsSplitAt s i l r → o ≡ at_seam l r (is_break (l ++ r) (length l)) → counted o ≡ seam_at i s
unfolding seam_at
seam-cut i s l r o h e = ap counted (rw (h.1, h.2) at e)

pub part_length : (s l : List ℕ) → of_text s (λ cs. tt {0}) ≡ value tt → l ≡ part (of_text s (λ cs. encode (trimmed cs)))
    → value (length l) ≡ of_text s (λ cs. bytes (trimmed cs))
part_length s l e f =
    let kept = text-too s (λ cs. tt {0}) (λ cs. encode (trimmed cs)) tt e in
    let counts = text-too s (λ cs. tt {0}) (λ cs. bytes (trimmed cs)) tt e in
    ap (λ (b : List ℕ). value (length b)) (f ∙ ap part kept) ∙ sym counts

-- ── by number ──

module _ (k i : ℕ) (left : Bool) (s : List ℕ) {r : Answer Call} (n : outcome r ≡ named k) where
  -- a number that names no call
  pub no-call : (q : Refusal) → r ≡ Err q → refused (refusal_number q) ≡ asked_by k i left s
  unfolding named asked_by
  no-call q e = go (eqb k 0 || ltb 21 k) (get_or calls (k - 1) IsBreak) (sym (ap outcome e) ∙ n)
    where
      go : (t : Bool) (x : Call) → refused (refusal_number q) ≡ cond t (refused 10) (value x) → refused (refusal_number q) ≡ cond t (refused 10) (asked x i left s)
      go true x h = let z : refusal_number q ≡ 10 = cc in ap (λ (j : ℕ). refused j) z
      go false x h = absurd (let z : ◌≡◌ {A = ℕ} 0 1 = cc in omega arith)

  -- the answer of the call that the number names
  pub by_number : (c : Call) (o : Outcome ℕ) → r ≡ Ok c → o ≡ asked c i left s → o ≡ asked_by k i left s
  unfolding named asked_by
  by_number c o e a = a ∙ go (eqb k 0 || ltb 21 k) (get_or calls (k - 1) IsBreak) (sym (ap outcome e) ∙ n)
    where
      go : (t : Bool) (x : Call) → value c ≡ cond t (refused 10) (value x) → asked c i left s ≡ cond t (refused 10) (asked x i left s)
      go true x h = absurd (let z : ◌≡◌ {A = ℕ} 0 1 = cc in omega arith)
      go false x h = let z : c ≡ x = cc in ap (λ (d : Call). asked d i left s) z

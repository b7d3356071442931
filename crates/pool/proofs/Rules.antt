-- From the tests of the code to the rules of `Calls`: what a test that was passed, or not, makes of a call.
use Rattle.std.specs.Prelude.{Ok, Err}
use mathlib.Core.Path.{◌≡◌, refl, sym, ap, subst, ◌∙◌}
use mathlib.Core.Bool.{Bool, true, false, ◌||◌}
use mathlib.Core.List.{List, [], ◌∷◌}
use Prim.Native.Nat.{ℕ, ◌+◌, ◌*◌, ◌≤◌, ◌<◌}
use native.Mathlib.Omega.{arith}
use lib.ListN.{length, get_or}
use borrow.Author.Tests.{lt-ltb, le-ltb, ltb-false}
use Rattle.plain.specs.Outcome.{Outcome, Outcome.value, Outcome.refused, Rule, ruled, past, mapped}
use Rattle.plain.proofs.Logic.{cut, or_left}
use Rattle.plain.proofs.Outcome.{rule-applies, rule-passed, one-applies, one-passed, accepted, one-accepted}
use Rattle.answer.specs.Answers.{refusal_number, Answer, outcome}
use Rattle.answer.specs.declared.Refusal.{Refusal}
use Rattle.answer.proofs.Opened.{opened, passed-up, passed_on}
use Rattle.text_info.specs.declared.TextInfo.{TextInfo}
use Rattle.pool.specs.declared.Kid.{Kid}
use Rattle.pool.specs.declared.Head.{Head}
use Rattle.octets.specs.Big.{two_at, four_at}
use Rattle.pool.specs.Slot.{slot_start, kid_start, kind_of, len_of, next_of, region_of, kid_at, entries, no_kid, head_put, kid_put}
use Rattle.pool.specs.Calls.{outside, no_slot, no_entry, Held, Held.free, Held.leaf, Held.list, held, held_by, wrong_head, head_of, kid_of, child_of, info_of, region_start, head_set, kid_set, Wrote}
use Rattle.pool.proofs.Slots.{kind-lies, len-lies, next-lies, kid-lies}

-- ── where a slot begins ──

module _ {A : Type 0} (m : List ℕ) (s : ℕ) (rs : List Rule) (a : A) where
  pub slot-outside : length m < slot_start s + 640 → refused 2 ≡ ruled (no_slot m s ∷ rs) a
  slot-outside h = sym (rule-applies 2 (outside m s) rs a (lt-ltb (length m) (slot_start s + 640) h))

  pub slot-inside : slot_start s + 640 ≤ length m → ruled (no_slot m s ∷ rs) a ≡ ruled rs a
  slot-inside h = rule-passed 2 (outside m s) rs a (le-ltb (length m) (slot_start s + 640) h)

one-refused : {A : Type 0} (n : ℕ) (t : Bool) (a : A) (k : ℕ) → refused k ≡ ruled ((n, t) ∷ []) a → (t ≡ true) × (k ≡ n)
unfolding ruled
one-refused n true a k e = (refl, (let z : k ≡ n = cc in z))
one-refused n false a k e = absurd (let z : ◌≡◌ {A = ℕ} 0 1 = cc in omega arith)

-- what `slot_start` answered
module _ (r : Answer ℕ) (m : List ℕ) (s : ℕ) (promise : outcome r ≡ ruled (no_slot m s ∷ []) (slot_start s)) where
  pub start_is : (at : ℕ) → r ≡ Ok at → (at ≡ slot_start s) × (slot_start s + 640 ≤ length m)
  start_is at e =
      let o = opened r (no_slot m s ∷ []) (slot_start s) promise at s e in
      (o.0, ltb-false (length m) (slot_start s + 640) (one-accepted 2 (outside m s) s s o.1))

  start_outside : (q : Refusal) → r ≡ Err q → (outside m s ≡ true) × (refusal_number q ≡ 2)
  start_outside q e = one-refused 2 (outside m s) s (refusal_number q) (passed-up r (no_slot m s ∷ []) (slot_start s) promise q s e)

  pub start-refused : {A : Type 0} (q : Refusal) (rs : List Rule) (a : A) → r ≡ Err q → refused (refusal_number q) ≡ ruled (no_slot m s ∷ rs) a
  start-refused {A} q rs a e =
      let o = start_outside q e in
      let two : ◌≡◌ {A = Outcome A} (refused (refusal_number q)) (refused 2) = ap (λ (n : ℕ). refused n) o.1 in
      two ∙ sym (rule-applies 2 (outside m s) rs a o.0)

  -- a region
  pub region-refused : (q : Refusal) → r ≡ Err q → outcome r ≡ region_start m s
  unfolding region_start
  region-refused q e = passed_on r (no_slot m s ∷ []) (slot_start s) promise q (slot_start s + 128) e

  pub region-found : (at : ℕ) → r ≡ Ok at → value (at + 128) ≡ region_start m s
  unfolding region_start
  region-found at e =
      let o = opened r (no_slot m s ∷ []) (slot_start s) promise at (slot_start s + 128) e in
      ap (λ (n : ℕ). value (n + 128)) o.0 ∙ sym o.1

  -- a head
  pub head-refused : (q : Refusal) → r ≡ Err q → refused (refusal_number q) ≡ head_of m s
  unfolding head_of
  head-refused q e =
      let o = start_outside q e in
      let two : ◌≡◌ {A = Outcome Held} (refused (refusal_number q)) (refused 2) = ap (λ (n : ℕ). refused n) o.1 in
      two ∙ sym (one-applies 2 (outside m s || wrong_head (kind_of m s) (len_of m s)) (held_by (kind_of m s) (len_of m s) (next_of m s)) (or_left (outside m s) _ o.0))

  pub head-found : (at : ℕ) (a : Answer Head) → r ≡ Ok at → held a ≡ ruled ((2, wrong_head (get_or m at 0) (two_at m (at + 2))) ∷ []) (held_by (get_or m at 0) (two_at m (at + 2)) (four_at m (at + 4)))
      → held a ≡ head_of m s
  unfolding head_of
  head-found at a e p =
      let o = start_is at e in
      p
      ∙ ap (λ (n : ℕ). ruled ((2, wrong_head (get_or m n 0) (two_at m (n + 2))) ∷ []) (held_by (get_or m n 0) (two_at m (n + 2)) (four_at m (n + 4)))) o.0
      ∙ sym (ap (λ (t : Bool). ruled ((2, t || wrong_head (kind_of m s) (len_of m s)) ∷ []) (held_by (kind_of m s) (len_of m s) (next_of m s))) (le-ltb (length m) (slot_start s + 640) o.1) ∙ rw (kind-lies m s, len-lies m s, next-lies m s))

  -- the place of an entry
  pub place-refused : (q : Refusal) (i : ℕ) → r ≡ Err q → outcome r ≡ ruled (no_slot m s ∷ no_entry i ∷ []) (kid_start s i)
  place-refused q i e = ap outcome e ∙ start-refused q (no_entry i ∷ []) (kid_start s i) e

  pub place_none : (at i : ℕ) → r ≡ Ok at → 16 ≤ i → refused 3 ≡ ruled (no_slot m s ∷ no_entry i ∷ []) (kid_start s i)
  place_none at i e h = sym (slot-inside m s (no_entry i ∷ []) (kid_start s i) (start_is at e).1 ∙ one-applies 3 (past i 15) (kid_start s i) (lt-ltb 15 i h))

  pub place_found : (at i : ℕ) → r ≡ Ok at → i < 16 → value (at + (128 + 20 * i)) ≡ ruled (no_slot m s ∷ no_entry i ∷ []) (kid_start s i)
  place_found at i e h =
      let o = start_is at e in
      ap (λ (n : ℕ). value (n + (128 + 20 * i))) o.0 ∙ sym (slot-inside m s (no_entry i ∷ []) (kid_start s i) o.1 ∙ one-passed 3 (past i 15) (kid_start s i) (le-ltb 15 i (omega arith)))

  -- a head written
  module _ (kind len most next : ℕ) where
    pub set-refused : (q : Refusal) → r ≡ Err q → head_set m s kind len most next ≡ refused (refusal_number q)
    unfolding head_set
    set-refused q e = sym (start-refused q ((11, past len most) ∷ []) (head_put m s kind len next) e)

    pub set_long : (at : ℕ) → r ≡ Ok at → most < len → head_set m s kind len most next ≡ refused 11
    unfolding head_set
    set_long at e h = slot-inside m s ((11, past len most) ∷ []) (head_put m s kind len next) (start_is at e).1 ∙ one-applies 11 (past len most) (head_put m s kind len next) (lt-ltb most len h)

    pub set-done : (at : ℕ) → r ≡ Ok at → len ≤ most → head_set m s kind len most next ≡ value (head_put m s kind len next)
    unfolding head_set
    set-done at e h = slot-inside m s ((11, past len most) ∷ []) (head_put m s kind len next) (start_is at e).1 ∙ one-passed 11 (past len most) (head_put m s kind len next) (le-ltb most len h)

-- what `kid_start` answered
module _ (r : Answer ℕ) (m : List ℕ) (s i : ℕ) (promise : outcome r ≡ ruled (no_slot m s ∷ no_entry i ∷ []) (kid_start s i)) where
  pub place_is : (at : ℕ) → r ≡ Ok at → (at ≡ kid_start s i) × (slot_start s + 640 ≤ length m) × (i < 16)
  place_is at e =
      let o = opened r (no_slot m s ∷ no_entry i ∷ []) (kid_start s i) promise at s e in
      let a = accepted 2 (outside m s) (no_entry i ∷ []) s s o.1 in
      let h = ltb-false 15 i (one-accepted 3 (past i 15) s s a.1) in
      (o.0, ltb-false (length m) (slot_start s + 640) a.0, omega arith)

  pub kid-refused : (q : Refusal) → r ≡ Err q → refused (refusal_number q) ≡ kid_of m s i
  unfolding kid_of
  kid-refused q e = passed-up r (no_slot m s ∷ no_entry i ∷ []) (kid_start s i) promise q (get_or (entries (region_of m s)) i no_kid) e

  pub kid-found : (at : ℕ) (k : Kid) → r ≡ Ok at → k ≡ kid_at m at → value k ≡ kid_of m s i
  unfolding kid_of
  kid-found at k e p =
      let o = place_is at e in
      let v = get_or (entries (region_of m s)) i no_kid in
      let z : k ≡ v = p ∙ ap (kid_at m) o.0 ∙ sym (kid-lies m s i o.2) in
      ap (λ (x : Kid). value x) z ∙ sym (opened r (no_slot m s ∷ no_entry i ∷ []) (kid_start s i) promise at v e).1

  -- of its child the slot, and the counts
  pub child-refused : (q : Refusal) → r ≡ Err q → outcome r ≡ child_of m s i
  child-refused q e = ap outcome e ∙ ap (mapped (λ (k : Kid). k.slot)) (kid-refused q e)

  pub child-found : (at n : ℕ) → r ≡ Ok at → n ≡ four_at m at → value n ≡ child_of m s i
  unfolding kid_at
  child-found at n e p = ap (λ (x : ℕ). value x) p ∙ ap (mapped (λ (k : Kid). k.slot)) (kid-found at (kid_at m at) e refl)

  pub info-refused : (q : Refusal) → r ≡ Err q → refused (refusal_number q) ≡ info_of m s i
  info-refused q e = ap (mapped (λ (k : Kid). k.info)) (kid-refused q e)

  pub info-found : (at : ℕ) (t : TextInfo) → r ≡ Ok at → t ≡ (kid_at m at).info → value t ≡ info_of m s i
  info-found at t e p = ap (λ (x : TextInfo). value x) p ∙ ap (mapped (λ (k : Kid). k.info)) (kid-found at (kid_at m at) e refl)

  pub child-is : (at : ℕ) → r ≡ Ok at → four_at m at ≡ (get_or (entries (region_of m s)) i no_kid).slot
  unfolding kid_at
  child-is at e = let o = place_is at e in ap (four_at m) o.0 ∙ ap (λ (k : Kid). k.slot) (sym (kid-lies m s i o.2))

  pub put_refused : (k : Kid) (q : Refusal) → r ≡ Err q → kid_set m s i k ≡ refused (refusal_number q)
  unfolding kid_set
  put_refused k q e = sym (passed-up r (no_slot m s ∷ no_entry i ∷ []) (kid_start s i) promise q (kid_put m s i k) e)

  pub put-done : (k : Kid) (at : ℕ) → r ≡ Ok at → kid_set m s i k ≡ value (kid_put m s i k)
  unfolding kid_set
  put-done k at e = (opened r (no_slot m s ∷ no_entry i ∷ []) (kid_start s i) promise at (kid_put m s i k) e).1

-- ── a promise met: by a refusal, or by the work done ──

module _ (o : Outcome (List ℕ)) (before : List ℕ) (r : Answer (Unit {0})) where
  pub wrote-refused : (n : ℕ) → o ≡ refused n → outcome r ≡ refused n → Wrote o before r before
  wrote-refused n e a = subst (λ (p : Outcome (List ℕ)). Wrote p before r before) (sym e) (record { answered = a; memory = refl })

  pub wrote-done : (m after : List ℕ) → o ≡ value m → outcome r ≡ value tt → after ≡ m → Wrote o before r after
  wrote-done m after e a h = subst (λ (p : Outcome (List ℕ)). Wrote p before r after) (sym e) (record { answered = a; memory = h })

-- ── the cases of a head ──

module _ (kind len next : ℕ) where
  abbrev promised : Outcome Held
  promised = ruled ((2, wrong_head kind len) ∷ []) (held_by kind len next)

  pub free-is : kind ≡ 0 → value (free next) ≡ promised
  unfolding ruled
  free-is e = rw e

  pub leaf-is : kind ≡ 1 → len ≤ 512 → value (leaf len) ≡ promised
  unfolding ruled
  leaf-is e h = rw (e, le-ltb 512 len h)

  pub list-is : kind ≡ 2 → len ≤ 16 → value (list len) ≡ promised
  unfolding ruled
  list-is e h = rw (e, le-ltb 16 len h)

  pub leaf-long : kind ≡ 1 → 512 < len → refused 2 ≡ promised
  unfolding ruled
  leaf-long e h = rw (e, lt-ltb 512 len h)

  pub list-long : kind ≡ 2 → 16 < len → refused 2 ≡ promised
  unfolding ruled
  list-long e h = rw (e, lt-ltb 16 len h)

  pub no_kind : 2 < kind → refused 2 ≡ promised
  unfolding ruled
  no_kind h = rw (lt-ltb 2 kind h)

-- a number that is neither 0, 1 nor 2
pub above : (n : ℕ) → (n ≡ 0 → ⊥) → (n ≡ 1 → ⊥) → (n ≡ 2 → ⊥) → 2 < n
above n a b c = cut 2 n (λ h. h) (λ h. absurd (cut n 1 (λ k. a (omega arith)) (λ k. cut n 2 (λ l. b (omega arith)) (λ l. c (omega arith)))))

-- From the tests of the code to the rules of `Slots`: what an answer of the calls below makes of a call.
use Rattle.std.specs.Prelude.{Ok, Err}
use mathlib.Core.Path.{◌≡◌, refl, sym, ap, subst, ◌∙◌}
use mathlib.Core.Bool.{Bool, true, false, ◌||◌}
use mathlib.Core.List.{List, [], ◌∷◌}
use mathlib.Core.Logic.{inl, inr}
use Prim.Native.Nat.{ℕ, ◌+◌, ◌≤◌, ◌<◌}
use native.Mathlib.Omega.{arith}
use lib.ListN.{length, get_or}
use borrow.Author.Tests.{lt-ltb, le-ltb, ltb-false}
use Rattle.plain_note.specs.Note.{head_size}
use Rattle.plain.specs.Outcome.{Outcome, Outcome.value, Outcome.refused, past, mapped, kept}
use Rattle.plain.proofs.Logic.{or_left, or_right, or-none, neither}
use Rattle.plain.proofs.Outcome.{rule-applies, rule-passed, one-applies, one-passed, clash}
use Rattle.answer.specs.Answers.{refusal_number, Answer, outcome}
use Rattle.answer.specs.declared.Refusal.{Refusal}
use Rattle.pool.specs.declared.Head.{Head}
use Rattle.pool.specs.declared.Head.TheVariants as Head·case
use Rattle.octets.specs.Big.{two_at, four_at}
use Rattle.pool.specs.Slot.{slot_start, kind_of, len_of, next_of, head_put}
use Rattle.pool.specs.Calls.{outside, Held.free, Held.leaf, Held.list, held, held_by, wrong_head, head_of, free_set, head_set, Wrote}
use Rattle.pool.proofs.Slots.{next-lies, head-size}
use Rattle.pool.proofs.Rules.{wrote-refused, wrote-done}
use Rattle.pool.proofs.Opened.{head_opened, head-wrote, wrote-never}
use Rattle.nodes.proofs.Heads.{head-none}
use Rattle.note_head.specs.Head.{free_of}
use Rattle.note_head.specs.Writes.{number_put, number_set}
use Rattle.note_head.proofs.Laid.{number-it, number-there}
use Rattle.free_slots.specs.Slots.{no_free, taken_memory, taken, no_gift, given_memory, given, Took}

-- a number of four bytes has 32 bits
module _ (m : List ℕ) (f : (i : ℕ) → get_or m i 0 < 256) where
  two-small : (i : ℕ) → two_at m i < 65536
  unfolding two_at
  two-small i = omega (arith, f i, f (i + 1))

  four-small : (i : ℕ) → four_at m i < 4294967296
  unfolding four_at
  four-small i = omega (arith, two-small i, two-small (i + 2))

  pub next_small : (s : ℕ) → next_of m s < 4294967296
  next_small s = omega (arith, next-lies m s, four-small (slot_start s + 4))

-- ── taking ──

module _ (o : Outcome (ℕ × List ℕ)) (before : List ℕ) (r : Answer ℕ) where
  pub took-refused : (n : ℕ) → o ≡ refused n → outcome r ≡ refused n → Took o before r before
  took-refused n e a = subst (λ (p : Outcome (ℕ × List ℕ)). Took p before r before) (sym e) (record { answered = a; memory = refl })

  pub took-done : (s : ℕ) (m after : List ℕ) → o ≡ value (s, m) → outcome r ≡ value s → after ≡ m → Took o before r after
  took-done s m after e a h = subst (λ (p : Outcome (ℕ × List ℕ)). Took p before r after) (sym e) (record { answered = a; memory = h })

module _ (m : List ℕ) where
  pub taken_not : no_free m (free_of m) ≡ true → taken m ≡ refused 2
  unfolding taken
  taken_not e = one-applies 2 (no_free m (free_of m)) (free_of m, taken_memory m) e

  pub taken-it : slot_start (free_of m) + 640 ≤ length m → kind_of m (free_of m) ≡ 0 → taken m ≡ value (free_of m, taken_memory m)
  unfolding taken
  taken-it h k =
      let f = free_of m in
      one-passed 2 (no_free m f) (f, taken_memory m) (or-none (outside m f) (past (kind_of m f) 0) (le-ltb (length m) (slot_start f + 640) h) (le-ltb 0 (kind_of m f) (omega arith)))

  -- a slot that is answered lies in the memory
  pub taken-some : (u : ℕ) → mapped (λ q. q.0) (taken m) ≡ value u → slot_start (free_of m) + 640 ≤ length m
  taken-some u e = go (no_free m (free_of m)) refl
    where
      go : (t : Bool) → no_free m (free_of m) ≡ t → slot_start (free_of m) + 640 ≤ length m
      go true t =
          let p = sym (ap (mapped (λ q. q.0)) (taken_not t)) ∙ e in
          absurd (let z : ◌≡◌ {A = ℕ} 0 1 = cc in omega arith)
      go false t = ltb-false (length m) (slot_start (free_of m) + 640) (neither (outside m (free_of m)) (past (kind_of m (free_of m)) 0) t).0

-- what `head_of` answered
module _ (m : List ℕ) (s : ℕ) (r : Answer Head) (promise : held r ≡ head_of m s) where
  pub head-free : (n : ℕ) → r ≡ Ok (Head·case.Free n) → (slot_start s + 640 ≤ length m) × (kind_of m s ≡ 0) × (next_of m s ≡ n)
  head-free n e = let o = head_opened r m s (free n) promise (ap held e) in (o.0, o.1.0, o.1.1)

  pub leaf-not : (n : ℕ) → r ≡ Ok (Head·case.Leaf n) → no_free m s ≡ true
  leaf-not n e = or_right (outside m s) (past (kind_of m s) 0) (lt-ltb 0 (kind_of m s) (omega (arith, (head_opened r m s (leaf n) promise (ap held e)).1.0)))

  pub list-not : (n : ℕ) → r ≡ Ok (Head·case.List n) → no_free m s ≡ true
  list-not n e = or_right (outside m s) (past (kind_of m s) 0) (lt-ltb 0 (kind_of m s) (omega (arith, (head_opened r m s (list n) promise (ap held e)).1.0)))

  -- what is refused is no free slot, and by 2
  pub refused-not : (q : Refusal) → r ≡ Err q → (no_free m s ≡ true) × (refusal_number q ≡ 2)
  unfolding head_of
  refused-not q e = (go (no_free m s) refl, (head-none m s r promise q e).2)
    where
      go : (t : Bool) → no_free m s ≡ t → no_free m s ≡ true
      go true t = t
      go false t =
          let n = neither (outside m s) (past (kind_of m s) 0) t in
          let k : kind_of m s ≡ 0 = (let l = ltb-false 0 (kind_of m s) n.1 in omega arith) in
          let w : (outside m s || wrong_head (kind_of m s) (len_of m s)) ≡ false = rw (n.0, k) in
          clash (refusal_number q) _ (sym (ap held e) ∙ promise ∙ one-passed 2 (outside m s || wrong_head (kind_of m s) (len_of m s)) (held_by (kind_of m s) (len_of m s) (next_of m s)) w)

  -- nor is what is a leaf or a list
  pub head-other : (h : Head) → r ≡ Ok h → ((n : ℕ) → h ≡ Head·case.Free n → ⊥) → no_free m s ≡ true
  head-other (Head·case.Free n) e k = absurd (k n refl)
  head-other (Head·case.Leaf n) e k = leaf-not n e
  head-other (Head·case.List n) e k = list-not n e

-- the call
module _ (m : List ℕ) (s : ℕ) (at : s ≡ free_of m) (r : Answer Head) (promise : held r ≡ head_of m s) where
  pub take-not : no_free m s ≡ true → (q : Refusal) → refusal_number q ≡ 2 → Took (taken m) m (Err q) m
  take-not t q e = took-refused _ _ _ 2 (taken_not m (ap (no_free m) (sym at) ∙ t)) (ap (λ (n : ℕ). refused n) e)

  -- the slot was found in the memory, so the memory has a head
  pub first-never : {X : Type 0} (next : ℕ) → r ≡ Ok (Head·case.Free next) → (v : Answer (Unit {0})) (after : List ℕ) → Wrote (number_set m 32 next) m v after → (q : Refusal) → v ≡ Err q → X
  first-never next e v after w q f =
      let h = head-free m s r promise next e in
      wrote-never _ m v after w _ (number-it m (omega (arith, h.0)) 32 next) q f

  pub take_done : (next : ℕ) → r ≡ Ok (Head·case.Free next) → (v : Answer (Unit {0})) (after : List ℕ) → Wrote (number_set m 32 next) m v after → Took (taken m) m (Ok s) after
  take_done next e v after w =
      let f = head-free m s r promise next e in
      let inside : slot_start (free_of m) + 640 ≤ length m = omega (arith, f.0) in
      took-done _ _ _ (free_of m) (taken_memory m) after (taken-it m inside (ap (kind_of m) (sym at) ∙ f.1)) (ap (λ (n : ℕ). value n) at)
      (number-there m (omega arith) v after 32 next w ∙ ap (number_put m 32) (sym f.2 ∙ ap (next_of m) at))

-- ── giving ──

module _ (m : List ℕ) (s : ℕ) where
  pub given-not : no_gift m s ≡ true → given m s ≡ refused 2
  unfolding given
  given-not e = one-applies 2 (no_gift m s) (given_memory m s) e

  pub given-far : 4294967295 < s → given m s ≡ refused 2
  given-far h = given-not (or_left (past s 4294967295) (outside m s) (lt-ltb 4294967295 s h))

  pub given-it : s < 4294967296 → slot_start s + 640 ≤ length m → given m s ≡ value (given_memory m s)
  unfolding given
  given-it k h = one-passed 2 (no_gift m s) (given_memory m s) (or-none (past s 4294967295) (outside m s) (le-ltb 4294967295 s (omega arith)) (le-ltb (length m) (slot_start s + 640) h))

  module _ (k : s < 4294967296) (next : ℕ) (v : Answer (Unit {0})) (l : List ℕ) (w : Wrote (free_set m s next) m v l) where
    pub give-not : (q : Refusal) → v ≡ Err q → Wrote (given m s) m v l
    unfolding head_set
    give-not q e = go (outside m s) refl
      where
        go : (t : Bool) → outside m s ≡ t → Wrote (given m s) m v l
        go true t =
            let o = rule-applies 2 (outside m s) ((11, past 0 0) ∷ []) (head_put m s 0 0 next) t in
            let g = given-not (or_right (past s 4294967295) (outside m s) t) in
            subst (λ (x : List ℕ). Wrote (given m s) m v x) (sym (w.memory ∙ ap (λ (x : Outcome (List ℕ)). kept m x) o)) (wrote-refused _ _ _ 2 g (w.answered ∙ ap (mapped (λ x. tt)) o))
        go false t =
            let o = rule-passed 2 (outside m s) ((11, past 0 0) ∷ []) (head_put m s 0 0 next) t ∙ one-passed 11 (past 0 0) (head_put m s 0 0 next) refl in
            let p = ap outcome (sym e) ∙ w.answered ∙ ap (mapped (λ x. tt)) o in
            absurd (let z : ◌≡◌ {A = ℕ} 0 1 = cc in omega arith)

    pub give-done : v ≡ (Ok tt) → next ≡ free_of m → (u : Answer (Unit {0})) (after : List ℕ) → Wrote (number_set l 32 s) l u after → Wrote (given m s) m u after
    give-done e f u after x =
        let h = head-wrote m s 0 0 0 next l (subst (λ (y : Answer (Unit {0})). Wrote (free_set m s next) m y l) e w) in
        let long : head_size ≤ length l = omega (arith, ap length h.2 ∙ head-size m s 0 0 next h.0, h.0) in
        wrote-done _ _ _ (given_memory m s) after (given-it k h.0) (x.answered ∙ ap (mapped (λ y. tt)) (number-it l long 32 s))
        (number-there l long u after 32 s x ∙ ap (λ (y : List ℕ). number_put y 32 s) (h.2 ∙ ap (head_put m s 0 0) f))

-- Answers opened on the way: how long a leaf is, and a head that is set, which is not refused where there is room.
use Rattle.std.specs.Prelude.{Ok, Err}
use mathlib.Core.Path.{◌≡◌, refl, sym, ap, subst, ◌∙◌}
use mathlib.Core.Bool.{Bool, true, false, not}
use mathlib.Core.List.{List, [], ◌∷◌}
use Prim.Native.Nat.{ℕ, ◌+◌, ◌-◌, ◌≤◌}
use native.Mathlib.Omega.{arith}
use lib.ListN.{length, take, drop}
use borrow.Author.Tests.{le-ltb, not-true}
use borrow.Rule.Slice.PartMut.{put_mid}
use Rattle.plain.specs.Outcome.{Outcome, Outcome.value, Outcome.refused, ruled, past, mapped}
use Rattle.plain.proofs.Outcome.{rule-passed, one-passed, one-applies, accepted, all-accepted}
use Rattle.answer.specs.Answers.{refusal_number, Answer, outcome}
use Rattle.answer.specs.declared.Refusal.{Refusal}
use Rattle.leaf_bytes.specs.Leaf.{Leaf}
use Rattle.leaf_bytes.specs.Raw.{replacing}
use Rattle.leaf_bytes.proofs.Opened.{value-is}
use Rattle.pool.specs.Slot.{slot_start, len_of, head_put}
use Rattle.pool.specs.Calls.{outside, head_set, Wrote}
use Rattle.pool.proofs.Opened.{wrote-never}
use Rattle.pool.proofs.Slots.{head-size, region-length, region-lent}
use Rattle.nodes.specs.Node.{is_leaf, leaf_put}
use Rattle.nodes.specs.Calls.{text_read, LeafWrote}
use Rattle.nodes.proofs.Heads.{inside, not-outside, leaf-says, one-refused}
use Rattle.nodes.proofs.Copied.{read-not, wrote-not}
use Rattle.nodes.proofs.Laid.{gave, replacing-whole, replacing-small, leaf-set, lent-size, lay_done}

-- ── how long a leaf is ──

is-so : (t : Bool) → not t ≡ false → t ≡ true
is-so true e = refl
is-so false e = sym e

module _ (m : List ℕ) (s : ℕ) where
  abbrev size : Outcome ℕ
  size = ruled ((2, not (is_leaf m s)) ∷ []) (len_of m s)

  pub size_is : (n : ℕ) → is_leaf m s ≡ true → len_of m s ≡ n → value n ≡ size
  size_is n e z = ap (λ (k : ℕ). value k) (sym z) ∙ sym (one-passed 2 (not (is_leaf m s)) (len_of m s) (ap not e))

  pub size-not : (k : ℕ) → is_leaf m s ≡ false → k ≡ 2 → refused k ≡ size
  size-not k e z = ap (λ (i : ℕ). refused i) z ∙ sym (one-applies 2 (not (is_leaf m s)) (len_of m s) (ap not e))

  module _ (r : Answer ℕ) (promise : outcome r ≡ size) where
    pub leaf-found : (n : ℕ) → r ≡ Ok n → (is_leaf m s ≡ true) × (len_of m s ≡ n) × (n ≤ 512)
    leaf-found n e =
        let w = accepted 2 (not (is_leaf m s)) [] (len_of m s) n (sym promise ∙ ap outcome e) in
        let leaf = is-so (is_leaf m s) w.0 in
        let len = all-accepted (len_of m s) n w.1 in
        (leaf, len, omega (arith, len, (leaf-says m s leaf).2))

    pub leaf-missed : (q : Refusal) → r ≡ Err q → (is_leaf m s ≡ false) × (refusal_number q ≡ 2)
    leaf-missed q e =
        let o = one-refused 2 (not (is_leaf m s)) (len_of m s) (refusal_number q) (sym (ap outcome e) ∙ promise) in
        (not-true (is_leaf m s) o.0, o.1)

    pub read-missed : (out : List ℕ) (q : Refusal) → r ≡ Err q → Leaf (text_read m s (length out)) out r out
    read-missed out q e =
        let n = leaf-missed q e in
        subst (λ (x : Answer ℕ). Leaf (text_read m s (length out)) out x out) (sym e) (read-not m s out q n.0 n.1)

    pub wrote-missed : (o : Outcome (List ℕ)) → (is_leaf m s ≡ false → o ≡ refused 2) → (q : Refusal) → r ≡ Err q → LeafWrote o m s r m
    wrote-missed o f q e =
        let n = leaf-missed q e in
        subst (λ (x : Answer ℕ). LeafWrote o m s x m) (sym e) (wrote-not o m s q (f n.0 ∙ ap (λ (k : ℕ). refused k) (sym n.1)))

-- ── a head set ──

module _ (m : List ℕ) (s len : ℕ) (h : slot_start s + 640 ≤ length m) (k : len ≤ 512) where
  pub leaf-accepted : head_set m s 1 len 512 0 ≡ value (head_put m s 1 len 0)
  unfolding head_set
  leaf-accepted =
      let p = head_put m s 1 len 0 in
      rule-passed 2 (outside m s) ((11, past len 512) ∷ []) p (not-outside m s h) ∙ one-passed 11 (past len 512) p (le-ltb 512 len k)

  module _ (v : Answer (Unit {0})) (after : List ℕ) (w : Wrote (head_set m s 1 len 512 0) m v after) where
    pub set_told : outcome v ≡ value tt
    set_told = w.answered ∙ ap (mapped (λ x. tt)) leaf-accepted

    pub set-never : {X : Type 0} (q : Refusal) → v ≡ Err q → X
    set-never q e = wrote-never _ m v after w _ leaf-accepted q e

    pub still-there : (right : ℕ) → outside m right ≡ false → outside after right ≡ false
    still-there right o = not-outside after right (omega (arith, inside m right o, ap length (leaf-set m s len v after w h k) ∙ head-size m s 1 len 0 h))

-- the head of a leaf whose region was edited where it lies
module _ (m : List ℕ) (s : ℕ) (h : slot_start s + 640 ≤ length m) (a end : ℕ) (f : a ≡ slot_start s + 128) (g : end ≡ a + 512) where
  abbrev lent : List ℕ
  lent = take (end - a) (drop a m)

  -- a text put where nothing was
  module _ (t : List ℕ) (k : length t ≤ 512) (r : Answer ℕ) (y : List ℕ) (w : Leaf (replacing lent 0 0 0 t) lent r y) where
    pub whole-told : outcome r ≡ value (length t)
    whole-told =
        let room : length lent ≡ 512 = ap length (region-lent m s a end f g) ∙ region-length m s h in
        w.answered ∙ ap (mapped (λ (x : List ℕ). length x)) (replacing-whole lent t k (omega arith))

    pub whole-laid : (len : ℕ) → r ≡ Ok len → (v : Answer (Unit {0})) (after : List ℕ)
        → Wrote (head_set (put_mid a (end - a) m y) s 1 len 512 0) (put_mid a (end - a) m y) v after → after ≡ leaf_put m s t
    whole-laid len z v after u =
        let b = put_mid a (end - a) m y in
        lay_done m s h a end f g t r y k w v after (subst (λ (j : ℕ). Wrote (head_set b s 1 j 512 0) b v after) (value-is r (length t) whole-told len z) u)

  module _ (n i e : ℕ) (piece : List ℕ) (r : Answer ℕ) (y : List ℕ) (promise : Leaf (replacing lent n i e piece) lent r y) (len : ℕ) (z : r ≡ Ok len) (v : Answer (Unit {0})) (after : List ℕ)
      (w : Wrote (head_set (put_mid a (end - a) m y) s 1 len 512 0) (put_mid a (end - a) m y) v after) where
    abbrev back : List ℕ
    back = put_mid a (end - a) m y

    there : slot_start s + 640 ≤ length back
    there = let d = gave (replacing lent n i e piece) lent r y len promise z in omega (arith, lent-size m s h a end f g d.text y (replacing-small lent n i e piece d.text d.is) d.region)

    small : len ≤ 512
    small = let d = gave (replacing lent n i e piece) lent r y len promise z in omega (arith, d.size, replacing-small lent n i e piece d.text d.is)

    pub edited-told : outcome v ≡ value tt
    edited-told = set_told back s len there small v after w

    pub edited-never : {X : Type 0} (q : Refusal) → v ≡ Err q → X
    edited-never q u = set-never back s len there small v after w q u

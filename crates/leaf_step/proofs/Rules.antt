-- From what the calls below answered to what a step comes to.
use Rattle.std.specs.Prelude.{Ok, Err}
use mathlib.Core.Path.{◌≡◌, refl, sym, ap, subst, ◌∙◌}
use mathlib.Core.Bool.{Bool, true, false, ◌&&◌, cond}
use mathlib.Core.List.{List}
use Prim.Native.Nat.{ℕ, ◌+◌, ◌-◌, ◌≤◌, ◌<◌}
use native.Mathlib.Omega.{arith}
use lib.Dec.{eqb}
use lib.ListN.{length, get_or}
use borrow.Author.Tests.{lt-ltb, le-ltb, eq-eqb, ne_eqb}
use Rattle.plain_note.specs.Note.{head_size}
use Rattle.plain.specs.Outcome.{Outcome, Outcome.value, Outcome.refused, past, mapped}
use Rattle.plain.proofs.Logic.{or-none, and_none}
use Rattle.plain.proofs.Outcome.{clash}
use Rattle.answer.specs.Answers.{refusal_number, Answer, outcome}
use Rattle.answer.specs.declared.Refusal.{Refusal}
use Rattle.leaf_bytes.proofs.Opened.{never}
use Rattle.text_info.specs.Info.{raw_info, raw_leaf_info}
use Rattle.text_info.specs.declared.TextInfo.{TextInfo}
use Rattle.text_info.proofs.Counts.{raw-counted}
use Rattle.pool.specs.declared.Head.{Head}
use Rattle.pool.specs.declared.Head.TheVariants as Head·case
use Rattle.pool.specs.Slot.{slot_start, kind_of, len_of, next_of, region_of}
use Rattle.pool.specs.Calls.{outside, held, head_of, Wrote}
use Rattle.pool.proofs.Opened.{wrote-never}
use Rattle.nodes.specs.Node.{is_leaf, text_of, leaf_put}
use Rattle.nodes.specs.Calls.{leaf_replaced, leaf_halved, LeafWrote, LeavesWrote}
use Rattle.nodes.proofs.Heads.{leaf-says, head-leaf}
use Rattle.nodes.proofs.Laid.{replacing-small}
use Rattle.nodes.proofs.Copied.{replace-is, replace-none}
use Rattle.nodes.proofs.Put.{leaf-put, leaf-text}
use Rattle.nodes.proofs.Accepted.{text-length, HalvedLeaf, halve-accepted}
use Rattle.note_head.specs.Head.{free_of}
use Rattle.note_head.specs.Writes.{number_put, number_set}
use Rattle.note_head.proofs.Laid.{number-it, number-there}
use Rattle.leaf_parts.specs.Parts.{leaf_text}
use Rattle.free_slots.specs.Slots.{no_free}
use Rattle.free_slots.proofs.Rules.{next_small, head-free}
use Rattle.edit_steps.specs.Made.{Made, Made.same, Made.split, Made.small, edit, sized, Stepped}
use Rattle.edit_steps.specs.declared.Edit.{Edit}
use Rattle.leaf_step.specs.Steps.{one_leaf, two_leaves, leaf_fit, leaf_halves, leaf_split, overfull, leaf_stepped}
use Rattle.leaf_step.proofs.Leaves.{left-text, right-text}

-- ── a leaf's counts ──

module _ (m : List ℕ) (s : ℕ) (leaf : is_leaf m s ≡ true) where
  text-is : leaf_text m s ≡ text_of m s
  unfolding leaf_text
  text-is = rw leaf

  pub leaf-counted : raw_leaf_info (leaf_text m s) ≡ value (raw_info (text_of m s))
  leaf-counted = ap raw_leaf_info text-is ∙ sym (raw-counted (text_of m s) (omega (arith, text-length m s leaf, (leaf-says m s leaf).2)))

-- counts that were promised
module _ (r : Answer TextInfo) (t : TextInfo) (promise : outcome r ≡ value t) where
  pub info-never : {X : Type 0} (q : Refusal) → r ≡ Err q → X
  info-never q e = clash (refusal_number q) t (sym (ap outcome e) ∙ promise)

  pub info-value : (i : TextInfo) → r ≡ Ok i → i ≡ t
  info-value i e =
      let z : ◌≡◌ {A = Outcome TextInfo} (value i) (value t) = sym (ap outcome e) ∙ promise in
      cc

-- ── a leaf's size ──

module _ (n : ℕ) (i j : TextInfo) (e : i ≡ j) where
  pub told-small : n < 128 → value (small i) ≡ value (sized 128 n j)
  told-small h = ap (λ (k : TextInfo). value (small k)) e ∙ sym (ap (λ (t : Bool). value (cond t (small j) (same j))) (lt-ltb n 128 h))

  pub told_same : 128 ≤ n → value (same i) ≡ value (sized 128 n j)
  told_same h = ap (λ (k : TextInfo). value (same k)) e ∙ sym (ap (λ (t : Bool). value (cond t (small j) (same j))) (le-ltb n 128 h))

pub told-two : (i a : TextInfo) (u : ℕ) (j b : TextInfo) → i ≡ a → j ≡ b → value (split i u j) ≡ value (split a u b)
told-two i a u j b e f = ap (λ (k : TextInfo). value (split k u j)) e ∙ ap (λ (k : TextInfo). value (split a u k)) f

-- ── a step ──

-- another name for what it comes to
pub stepped-as : (o p : Outcome (Made × List ℕ)) (before : List ℕ) (r : Answer Edit) (after : List ℕ) → o ≡ p → Stepped p before r after → Stepped o before r after
stepped-as o p before r after e s = subst (λ (q : Outcome (Made × List ℕ)). Stepped q before r after) (sym e) s

-- refused by 2
pub stepped-not : (o : Outcome (Made × List ℕ)) (before : List ℕ) → o ≡ refused 2 → (q : Refusal) → refusal_number q ≡ 2 → Stepped o before (Err q) before
stepped-not o before e q n = stepped-as o (refused 2) before _ before e (record { answered = ap (λ (k : ℕ). refused k) n; memory = refl })

-- ── an edit that fits ──

-- the leaf afterwards
record Replaced (m : List ℕ) (s : ℕ) (o : Outcome (List ℕ)) (n : ℕ) (after : List ℕ) : Type 0 where
  pub text : List ℕ
  pub is : o ≡ value text
  pub size : n ≡ length text
  pub leaf : is_leaf after s ≡ true
  pub reads : text_of after s ≡ text
  pub memory : after ≡ leaf_put m s text

module _ (m : List ℕ) (s i e : ℕ) (piece : List ℕ) where
  -- what is replaced lay in a leaf, and does so again
  was-leaf : (t : List ℕ) → leaf_replaced m s i e piece ≡ value t → (slot_start s + 640 ≤ length m) × (length t ≤ 512)
  was-leaf t h = go (is_leaf m s) refl
    where
      go : (b : Bool) → is_leaf m s ≡ b → (slot_start s + 640 ≤ length m) × (length t ≤ 512)
      go true z = ((leaf-says m s z).0, replacing-small (region_of m s) (len_of m s) i e piece t (sym (replace-is m s i e piece (len_of m s) z refl) ∙ h))
      go false z = absurd (never 2 t (sym (replace-none m s i e piece z) ∙ h))

  module _ (r : Answer ℕ) (after : List ℕ) (w : LeafWrote (leaf_replaced m s i e piece) m s r after) where
    pub fit_refused : (q : Refusal) → r ≡ Err q → Stepped (leaf_fit m s i e piece) m (Err q) after
    unfolding leaf_fit
    fit_refused q z = go (leaf_replaced m s i e piece) (subst (λ (x : Answer ℕ). LeafWrote (leaf_replaced m s i e piece) m s x after) z w)
      where
        go : (o : Outcome (List ℕ)) → LeafWrote o m s (Err q) after → Stepped (mapped (one_leaf m s) o) m (Err q) after
        go (value t) w = absurd (never _ _ w.answered)
        go (refused n) w =
            let p = w.answered in
            let z : refusal_number q ≡ n = cc in
            record { answered = ap (λ (k : ℕ). refused k) z; memory = w.memory }

    module _ (n : ℕ) (z : r ≡ Ok n) where
      fit-accepted : Replaced m s (leaf_replaced m s i e piece) n after
      fit-accepted = go (leaf_replaced m s i e piece) refl (subst (λ (x : Answer ℕ). LeafWrote (leaf_replaced m s i e piece) m s x after) z w)
        where
          go : (o : Outcome (List ℕ)) → leaf_replaced m s i e piece ≡ o → LeafWrote o m s (Ok n) after → Replaced m s o n after
          go (refused k) y w = absurd (never k n (sym w.answered))
          go (value t) y w =
              let f = was-leaf t y in
              let p = w.answered in
              record {
                text = t;
                is = refl;
                size = (let q : n ≡ length t = cc in q);
                leaf = ap (λ (l : List ℕ). is_leaf l s) w.memory ∙ leaf-put m s t f.0 f.1;
                reads = ap (λ (l : List ℕ). text_of l s) w.memory ∙ leaf-text m s t f.0 f.1;
                memory = w.memory;
              }

      pub fit-ready : is_leaf after s ≡ true
      fit-ready = fit-accepted.leaf

      pub fit-done : (a : Answer Edit) → edit a ≡ value (sized 128 n (raw_info (text_of after s))) → Stepped (leaf_fit m s i e piece) m a after
      unfolding leaf_fit
      fit-done a p =
          let x = fit-accepted in
          let t = x.text in
          subst (λ (o : Outcome (List ℕ)). Stepped (mapped (one_leaf m s) o) m a after) (sym x.is)
          (record {
            answered = p ∙ ap (λ (k : ℕ). value (sized 128 k (raw_info (text_of after s)))) x.size ∙ ap (λ (l : List ℕ). value (sized 128 (length t) (raw_info l))) x.reads;
            memory = x.memory;
          })

-- ── the chain of free slots, behind a leaf ──

module _ (m : List ℕ) (s v : ℕ) (leaf : is_leaf m s ≡ true) (r : Answer (Unit {0})) (after : List ℕ) (w : Wrote (number_set m 32 v) m r after) where
  long : head_size ≤ length m
  long = omega (arith, (leaf-says m s leaf).0)

  pub chain-never : {X : Type 0} (q : Refusal) → r ≡ Err q → X
  chain-never q e = wrote-never _ m r after w _ (number-it m long 32 v) q e

  pub chain-there : after ≡ number_put m 32 v
  chain-there = number-there m long r after 32 v w

-- ── a leaf parted ──

module _ (m : List ℕ) (s i : ℕ) (piece : List ℕ) (u v : ℕ) (r : Answer (ℕ × ℕ)) (mid : List ℕ) (w : LeavesWrote (leaf_halved m s i piece u) m s u r mid) where
  pub halve-refused : (q : Refusal) → r ≡ Err q → Stepped (leaf_halves m s i piece u v) m (Err q) mid
  unfolding leaf_halves
  halve-refused q z = go (leaf_halved m s i piece u) (subst (λ (x : Answer (ℕ × ℕ)). LeavesWrote (leaf_halved m s i piece u) m s u x mid) z w)
    where
      go : (o : Outcome (List ℕ × List ℕ)) → LeavesWrote o m s u (Err q) mid → Stepped (mapped (two_leaves m s u v) o) m (Err q) mid
      go (value t) w = absurd (never _ _ w.answered)
      go (refused n) w =
          let p = w.answered in
          let z : refusal_number q ≡ n = cc in
          record { answered = ap (λ (k : ℕ). refused k) z; memory = w.memory }

  module _ (k l : ℕ) (z : r ≡ Ok (k, l)) where
    halved : LeavesWrote (leaf_halved m s i piece u) m s u (Ok (k, l)) mid
    halved = subst (λ (x : Answer (ℕ × ℕ)). LeavesWrote (leaf_halved m s i piece u) m s u x mid) z w

    parts : HalvedLeaf m s i piece u k l mid
    parts = halve-accepted m s i piece u k l mid halved

    pub left-ready : is_leaf mid s ≡ true
    left-ready = parts.leaf

    pub right-ready : is_leaf mid u ≡ true
    right-ready = parts.other-leaf

    pub halve-done : (a : Answer Edit) (after : List ℕ) → edit a ≡ value (split (raw_info (text_of mid s)) u (raw_info (text_of mid u))) → after ≡ number_put mid 32 v → Stepped (leaf_halves m s i piece u v) m a after
    unfolding leaf_halves
    halve-done a after f g = go (leaf_halved m s i piece u) halved
      where
        go : (o : Outcome (List ℕ × List ℕ)) → LeavesWrote o m s u (Ok (k, l)) mid → Stepped (mapped (two_leaves m s u v) o) m a after
        go (refused q) w = absurd (never q (k, l) (sym w.answered))
        go (value p) w =
            let y = w.answered in
            let size : ◌≡◌ {A = ℕ × ℕ} (k, l) (length p.0, length p.1) = cc in
            let x = parts in
            let h = (leaf-says m s x.was-leaf).0 in
            let c : length p.0 ≤ 512 = omega (arith, ap (λ (q : ℕ × ℕ). q.0) size, x.size, x.split.fit.left-small) in
            let d : length p.1 ≤ 512 = omega (arith, ap (λ (q : ℕ × ℕ). q.1) size, x.other-size, x.split.fit.right-small) in
            let left : text_of mid s ≡ p.0 = ap (λ (q : List ℕ). text_of q s) w.memory ∙ left-text m s p.0 u p.1 h x.there c d x.apart in
            let right : text_of mid u ≡ p.1 = ap (λ (q : List ℕ). text_of q u) w.memory ∙ right-text m s p.0 u p.1 h x.there c d in
            record {
              answered = f ∙ ap (λ (q : List ℕ). value (split (raw_info q) u (raw_info (text_of mid u)))) left ∙ ap (λ (q : List ℕ). value (split (raw_info p.0) u (raw_info q))) right;
              memory = g ∙ ap (λ (q : List ℕ). number_put q 32 v) w.memory;
            }

-- ── the free slot ──

module _ (m : List ℕ) (s i : ℕ) (piece : List ℕ) (u : ℕ) (at : u ≡ free_of m) (h : Answer Head) (promise : held h ≡ head_of m u) where
  pub split-not : no_free m u ≡ true → (q : Refusal) → refusal_number q ≡ 2 → Stepped (leaf_split m s i piece) m (Err q) m
  unfolding leaf_split
  split-not t q e = stepped-not _ m (ap (λ (t : Bool). cond t (refused 2) (leaf_halves m s i piece (free_of m) (next_of m (free_of m)))) (ap (no_free m) (sym at) ∙ t)) q e

  module _ (next : ℕ) (e : h ≡ Ok (Head·case.Free next)) where
    pub next_fits : ((x : ℕ) → get_or m x 0 < 256) → next < 4294967296
    next_fits f = omega (arith, (head-free m u h promise next e).2, next_small m f u)

    free-there : no_free m u ≡ false
    free-there =
        let f = head-free m u h promise next e in
        or-none (outside m u) (past (kind_of m u) 0) (le-ltb (length m) (slot_start u + 640) f.0) (le-ltb 0 (kind_of m u) (omega (arith, f.1)))

    pub split-on : (r : Answer Edit) (after : List ℕ) → Stepped (leaf_halves m s i piece u next) m r after → Stepped (leaf_split m s i piece) m r after
    unfolding leaf_split
    split-on r after t =
        stepped-as _ _ m r after
        (ap (λ (t : Bool). cond t (refused 2) (leaf_halves m s i piece (free_of m) (next_of m (free_of m)))) (ap (no_free m) (sym at) ∙ free-there)
        ∙ ap (λ (x : ℕ). leaf_halves m s i piece x (next_of m x)) (sym at)
        ∙ ap (leaf_halves m s i piece u) (head-free m u h promise next e).2)
        t

-- ── which of the two ──

module _ (m : List ℕ) (s i e : ℕ) (piece : List ℕ) where
  pub step-none : is_leaf m s ≡ false → leaf_stepped m s i e piece ≡ refused 2
  unfolding leaf_stepped
  step-none l = rw l

  module _ (l : is_leaf m s ≡ true) where
    pub step-over : overfull m s i e piece ≡ true → leaf_stepped m s i e piece ≡ leaf_split m s i piece
    unfolding leaf_stepped
    step-over t = rw (l, t)

    pub step_fits : overfull m s i e piece ≡ false → leaf_stepped m s i e piece ≡ leaf_fit m s i e piece
    unfolding leaf_stepped
    step_fits t = rw (l, t)

  pub over-is : i ≡ e → 512 < length piece + len_of m s → overfull m s i e piece ≡ true
  over-is q h = rw (eq-eqb i e q, lt-ltb 512 (length piece + len_of m s) h)

  pub over-apart : (i ≡ e → ⊥) → overfull m s i e piece ≡ false
  over-apart q = rw (ne_eqb i e q)

  pub over-not : length piece + len_of m s ≤ 512 → overfull m s i e piece ≡ false
  over-not h = ap (λ (t : Bool). eqb i e && t) (le-ltb 512 (length piece + len_of m s) h) ∙ and_none (eqb i e)

  pub no-leaf : is_leaf m s ≡ false → (q : Refusal) → refusal_number q ≡ 2 → Stepped (leaf_stepped m s i e piece) m (Err q) m
  no-leaf l q n = stepped-not _ m (step-none l) q n

  module _ (h : Answer Head) (promise : held h ≡ head_of m s) where
    module _ (n : ℕ) (z : h ≡ Ok (Head·case.Leaf n)) where
      pub leaf-small : n ≤ 512
      leaf-small = (head-leaf m s h promise n z).2

      pub step-split : i ≡ e → 512 - n < length piece → (r : Answer Edit) (after : List ℕ) → Stepped (leaf_split m s i piece) m r after → Stepped (leaf_stepped m s i e piece) m r after
      step-split q l r after t =
          let f = head-leaf m s h promise n z in
          stepped-as _ _ m r after (step-over f.0 (over-is q (omega (arith, f.1, f.2)))) t

      pub step-apart : (i ≡ e → ⊥) → (r : Answer Edit) (after : List ℕ) → Stepped (leaf_fit m s i e piece) m r after → Stepped (leaf_stepped m s i e piece) m r after
      step-apart q r after t = stepped-as _ _ m r after (step_fits (head-leaf m s h promise n z).0 (over-apart q)) t

      pub step-fit : length piece ≤ 512 - n → (r : Answer Edit) (after : List ℕ) → Stepped (leaf_fit m s i e piece) m r after → Stepped (leaf_stepped m s i e piece) m r after
      step-fit l r after t =
          let f = head-leaf m s h promise n z in
          stepped-as _ _ m r after (step_fits f.0 (over-not (omega (arith, f.1, f.2)))) t

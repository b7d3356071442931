-- A leaf parted in two slots: from what the calls of the layers below promise to the memory that `Calls` asks for.
use Rattle.answer.specs.Answers.{Answer, outcome}
use Rattle.std.specs.Prelude.{Ok, Err}
use mathlib.Core.Path.{◌≡◌, sym, ap, subst, ◌∙◌}
use mathlib.Core.Bool.{false}
use mathlib.Core.List.{List}
use Prim.Native.Nat.{ℕ, ◌+◌, ◌-◌, ◌≤◌}
use native.Mathlib.Omega.{arith}
use lib.ListN.{length, take, drop, length-append}
use lib.Seq.{take_at}
use borrow.Rule.Slice.PartMut.{put_mid}
use Rattle.plain.specs.Outcome.{Outcome, Outcome.value, Outcome.refused}
use Rattle.answer.specs.declared.Refusal.{Refusal}
use Rattle.leaf_bytes.specs.Leaf.{laid, Leaves}
use Rattle.leaf_bytes.proofs.Opened.{never}
use Rattle.leaf_bytes.proofs.Rules.{leaves-same}
use Rattle.node_text.specs.Texts.{inserted_split}
use Rattle.node_text.proofs.Texts.{inserted-split-texts}
use Rattle.pool.specs.Slot.{slot_start, region_of, head_put}
use Rattle.pool.specs.Calls.{outside, head_set, Wrote}
use Rattle.pool.proofs.Slots.{region-length, region-lent}
use Rattle.nodes.specs.Node.{leaf_put}
use Rattle.nodes.specs.Calls.{LeavesWrote}
use Rattle.nodes.proofs.Heads.{not-outside}
use Rattle.nodes.proofs.Laid.{GaveTwo, gave-two, lent_same, leaf-made, lent-put, lent-size}
use Rattle.nodes.proofs.Put.{leaf-size}

-- of the region for the right side only its length counts
rooms : (region : List ℕ) (n i : ℕ) (piece x y : List ℕ) → length x ≡ length y → inserted_split region n i piece x ≡ inserted_split region n i piece y
unfolding inserted_split
rooms region n i piece x y e = rw e

module _ (m : List ℕ) (s : ℕ) (h : slot_start s + 640 ≤ length m) (a end : ℕ) (f : a ≡ slot_start s + 128) (g : end ≡ a + 512) (right : ℕ) (there : slot_start right + 640 ≤ length m)
    (n i : ℕ) (piece side : List ℕ) (room : length side ≡ 512) (r : Answer (ℕ × ℕ)) (y z : List ℕ)
    (promise : Leaves (inserted_split (take (end - a) (drop a m)) n i piece side) (take (end - a) (drop a m)) side r y z) where
  abbrev halved : Outcome (List ℕ × List ℕ)
  halved = inserted_split (region_of m s) n i piece (region_of m right)

  abbrev back : List ℕ
  back = put_mid a (end - a) m y

  now-regions : Leaves halved (region_of m s) side r y z
  now-regions =
      leaves-same (inserted_split (region_of m s) n i piece side) (region_of m s) side r halved y z
      (rooms (region_of m s) n i piece side (region_of m right) (room ∙ sym (region-length m right there)))
      (subst (λ (b : List ℕ). Leaves (inserted_split b n i piece side) b side r y z) (region-lent m s a end f g) promise)

  pub halve-not : (q : Refusal) → r ≡ Err q → LeavesWrote halved m s right r back
  halve-not q e = go halved now-regions
    where
      go : (o : Outcome (List ℕ × List ℕ)) → Leaves o (region_of m s) side r y z → LeavesWrote o m s right r back
      go (value t) w = absurd (never _ (length t.0, length t.1) (sym (ap outcome e) ∙ w.answered))
      go (refused k) w = record { answered = w.answered; memory = lent_same m s h a end f g y (w.left-region ∙ sym (region-lent m s a end f g)) }

  module _ (l k : ℕ) (e : r ≡ Ok (l, k)) where
    two : GaveTwo halved (region_of m s) side l k y z
    two = gave-two halved (region_of m s) side r y z l k now-regions e

    left-small : length two.text ≤ 512
    left-small = (inserted-split-texts (region_of m s) n i piece (region_of m right) two.text two.other two.is).fit.left-small

    right-small : length two.other ≤ 512
    right-small = (inserted-split-texts (region_of m s) n i piece (region_of m right) two.text two.other two.is).fit.right-small

    -- the right side, lent for its slot
    pub side-long : k ≤ length z
    side-long = let o = two.other-size in omega (arith, ap length two.other-region, length-append two.other (drop (length two.other) side))

    side-is : take k z ≡ two.other
    side-is = ap (take k) two.other-region ∙ take_at two.other (drop (length two.other) side) k two.other-size

    pub side-small : length (take k z) ≤ 512
    side-small = let o = right-small in omega (arith, ap length side-is)

    pub left-fits : l ≤ 512
    left-fits = let o = left-small in omega (arith, two.size)

    left_laid : y ≡ laid (take (end - a) (drop a m)) two.text
    left_laid = two.region ∙ ap (λ (b : List ℕ). laid b two.text) (sym (region-lent m s a end f g))

    -- the memory with the region back, before the heads are set
    pub back-there : (t : ℕ) → slot_start t + 640 ≤ length m → outside back t ≡ false
    back-there t o = not-outside back t (omega (arith, lent-size m s h a end f g two.text y left-small left_laid))

    -- and with the head of the left leaf set too
    pub right_there : (v : Answer (Unit {0})) (after : List ℕ) → Wrote (head_set back s 1 l 512 0) back v after → outside after right ≡ false
    right_there v after w =
        let made : after ≡ leaf_put m s two.text = leaf-made m s h a end f g two.text y v after left-small left_laid (subst (λ (j : ℕ). Wrote (head_set back s 1 j 512 0) back v after) (sym two.size) w) in
        not-outside after right (omega (arith, ap length made, leaf-size m s two.text h left-small))

    left-made : head_put back s 1 l 0 ≡ leaf_put m s two.text
    left-made =
        ap (λ (j : ℕ). head_put back s 1 j 0) (sym two.size) ∙ ap (λ (b : List ℕ). head_put b s 1 (length two.text) 0) (lent-put m s h a end f g two.text y left-small left_laid)

    pub halve-done : (v : Answer (ℕ × ℕ)) (last : List ℕ) → outcome v ≡ value (l, length (take k z)) → last ≡ leaf_put (head_put back s 1 l 0) right (take k z) → LeavesWrote halved m s right v last
    halve-done v last d t =
        subst (λ (o : Outcome (List ℕ × List ℕ)). LeavesWrote o m s right v last) (sym two.is)
        (record {
          answered = d ∙ ap (λ (j : ℕ). value (j, length (take k z))) (sym two.size) ∙ ap (λ (j : ℕ). value (length two.text, j)) (ap length side-is);
          memory = t ∙ ap (λ (b : List ℕ). leaf_put b right (take k z)) left-made ∙ ap (leaf_put (leaf_put m s two.text) right) side-is;
        })

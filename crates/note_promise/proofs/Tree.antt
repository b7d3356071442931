-- Memories with the same tree: what the head says of it, and every slot. The one holds what the other holds.
use mathlib.Core.Path.{◌≡◌, sym, ap, ◌∙◌}
use mathlib.Core.Bool.{true}
use mathlib.Core.List.{List}
use Prim.Native.Nat.{ℕ, ◌-◌, ◌*◌, min}
use native.Mathlib.Omega.{arith}
use lib.ListN.{length, take, drop, length-take}
use lib.Seq.{drop-drop}
use Rattle.plain.specs.Utf8.{decode}
use Rattle.plain_note.specs.Note.{need, head_size}
use Rattle.octets.proofs.Over.{part-is}
use Rattle.pool.specs.declared.Kid.{Kid}
use Rattle.pool.specs.Slot.{slot_start, slot_of}
use Rattle.tree.specs.Tree.{bytes_below, uses, sum_of, tells, told_right, least_root, sound}
use Rattle.tree.proofs.Frame.{Kept as KeptBelow, kept as kept-below}
use Rattle.note_head.specs.Head.{n_of, root_of, height_of, free_of, own_of}
use Rattle.note_head.proofs.Own.{own-n, own_root, own-height, own-free}
use Rattle.memory.specs.Formed.{frees, chained, in_tree}
use Rattle.edit_steps.specs.Became.{free}
use Rattle.edit_steps.proofs.Chains.{KeptChain, kept-chain}
use Rattle.edit_steps.specs.Held.{Held}

pub record SameTree (m later : List ℕ) : Type 0 where
  pub size : length later ≡ length m
  pub n : n_of later ≡ n_of m
  pub root : root_of later ≡ root_of m
  pub height : height_of later ≡ height_of m
  pub free : free_of later ≡ free_of m
  pub behind : drop head_size later ≡ drop head_size m

module _ (m later : List ℕ) (t : SameTree m later) where
  -- the note's own part
  own-size : length (own_of later) ≡ length (own_of m)
  unfolding own_of
  own-size =
      let k = need (n_of m) in
      ap (λ (n : ℕ). length (take (need n) later)) t.n ∙ length-take k later ∙ ap (min k) t.size ∙ sym (length-take k m)

  rest-same : (s : ℕ) → drop (slot_start s) later ≡ drop (slot_start s) m
  rest-same s = sym (drop-drop (640 * s) head_size later) ∙ ap (drop (640 * s)) t.behind ∙ drop-drop (640 * s) head_size m

  slots_same : (s : ℕ) → slot_of (own_of later) s ≡ slot_of (own_of m) s
  unfolding own_of slot_of
  slots_same s =
      let k = need (n_of m) in
      let a = slot_start s in
      ap (λ (n : ℕ). take 640 (drop a (take (need n) later))) t.n
      ∙ ap (take 640) (part-is a k later ∙ ap (take (k - a)) (rest-same s) ∙ sym (part-is a k m))

  root-own : root_of (own_of later) ≡ root_of (own_of m)
  root-own = own_root later ∙ t.root ∙ sym (own_root m)

  height-own : height_of (own_of later) ≡ height_of (own_of m)
  height-own = own-height later ∙ t.height ∙ sym (own-height m)

  free_own : free_of (own_of later) ≡ free_of (own_of m)
  free_own = own-free later ∙ t.free ∙ sym (own-free m)

  n-own : n_of (own_of later) ≡ n_of (own_of m)
  n-own = own-n later ∙ t.n ∙ sym (own-n m)

  module _ (n : ℕ) (bytes : List ℕ) (w : Held (own_of m) n bytes) where
    abbrev h : ℕ
    h = height_of (own_of m)

    abbrev k : Kid
    k = root_of (own_of m)

    below : KeptBelow (own_of m) (own_of later) own-size h k.slot
    below = kept-below (own_of m) (own_of later) own-size h k.slot (λ x g. slots_same x)

    chain : KeptChain (own_of m) (own_of later) n n (free_of (own_of m))
    chain = kept-chain (own_of m) (own_of later) n n (free_of (own_of m)) w.slotted.chain (λ x g. slots_same x)

    free-same : (x : ℕ) → free (own_of later) n x ≡ free (own_of m) n x
    free-same x = ap (λ (s : ℕ). frees (own_of later) n n s x) free_own ∙ chain.same x

    told_same : told_right (own_of later) h k ≡ true
    unfolding told_right
    told_same = ap (λ (b : List ℕ). tells k.info (sum_of (decode b))) below.bytes ∙ w.told

    in-tree : (x : ℕ) → in_tree (own_of later) x ≡ in_tree (own_of m) x
    in-tree x =
        ap (λ (i : ℕ). uses (own_of later) i (root_of (own_of later)).slot x) height-own
        ∙ ap (λ (r : Kid). uses (own_of later) h r.slot x) root-own
        ∙ below.used x

    -- THEOREM: what the one holds, the other holds
    pub same-held : Held (own_of later) n bytes
    same-held =
        record {
          least = w.least;
          most = w.most;
          slotted = record {
            long = own-size ∙ w.slotted.long;
            stored = n-own ∙ w.slotted.stored;
            chain = ap (chained (own_of later) n n) free_own ∙ chain.chain;
            once = λ x. omega (arith, free-same x, w.slotted.once x);
          };
          good =
              ap (λ (i : ℕ). sound (own_of later) (least_root i) i (root_of (own_of later)).slot) height-own
              ∙ ap (λ (r : Kid). sound (own_of later) (least_root h) h r.slot) root-own
              ∙ below.sound-too (least_root h)
              ∙ w.good;
          told = ap (λ (i : ℕ). told_right (own_of later) i (root_of (own_of later))) height-own ∙ ap (told_right (own_of later) h) root-own ∙ told_same;
          each = λ x g. omega (arith, in-tree x, free-same x, w.each x g);
          bytes =
              ap (λ (i : ℕ). bytes_below (own_of later) i (root_of (own_of later)).slot) height-own
              ∙ ap (λ (r : Kid). bytes_below (own_of later) h r.slot) root-own
              ∙ below.bytes
              ∙ w.bytes;
          size = w.size;
        }

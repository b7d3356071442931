-- A sound tree in the memory that uses every slot which is not free: with its node as the root and its height in the head, the memory holds its bytes.
use mathlib.Core.Path.{◌≡◌, ap, ◌∙◌, refl}
use mathlib.Core.Bool.{true}
use mathlib.Core.List.{List, [], ◌∷◌}
use Prim.Native.Nat.{ℕ, ◌+◌, ◌≤◌, ◌<◌}
use native.Mathlib.Omega.{arith}
use lib.ListN.{length}
use Rattle.plain.specs.Utf8.{decode}
use Rattle.plain.specs.Outcome.{Outcome.value}
use Rattle.plain_note.specs.Note.{limit, head_size}
use Rattle.pool.specs.declared.Kid.{Kid}
use Rattle.pool.specs.Slot.{slot_of, kid_bytes, Fits}
use Rattle.pool.proofs.Kids.{kid-length}
use Rattle.tree.specs.Tree.{bytes_below, uses, sum_of, tells, least_root, told_right, sound}
use Rattle.tree.proofs.Sound.{valid-below}
use Rattle.tree.proofs.Frame.{Kept as KeptBelow, kept as kept-below}
use Rattle.note_head.specs.Head.{n_of, root_of, height_of, free_of}
use Rattle.note_head.specs.Writes.{root_put, height_put}
use Rattle.note_head.proofs.Written.{laid-front, laid-part, height-set, height-around, height-same, root-set, root-around, root-same}
use Rattle.note_head.proofs.Table.{n-tells, root-tells, free-tells}
use Rattle.memory.specs.Formed.{frees, chained, in_tree}
use Rattle.edit_steps.specs.Became.{free, Slotted}
use Rattle.edit_steps.proofs.Chains.{KeptChain, kept-chain}
use Rattle.list_step.proofs.Totals.{tells_is, counts-small, node-there}
use Rattle.edit_steps.specs.Held.{Held, Kept}
use Rattle.root_step.specs.Root.{top_put}
use Rattle.root_step.proofs.Rules.{top-it}

-- a tree of height h from the node k on, with the bytes t, and every other slot free
pub record Stands (l : List ℕ) (n : ℕ) (k : Kid) (h : ℕ) (t : List ℕ) : Type 0 where
  pub least : 17 ≤ n
  pub most : n ≤ 4096
  pub slotted : Slotted l n
  pub good : sound l (least_root h) h k.slot ≡ true
  pub told : told_right l h k ≡ true
  pub each : (x : ℕ) → x < n → uses l h k.slot x + free l n x ≡ 1
  pub bytes : bytes_below l h k.slot ≡ t
  pub size : length t ≤ limit n + 1

module _ (l : List ℕ) (n : ℕ) (k : Kid) (h : ℕ) (t : List ℕ) (w : Stands l n k h t) where
  abbrev mid : List ℕ
  mid = root_put l k

  abbrev pub topped : List ℕ
  topped = height_put mid h

  there : head_size ≤ length l
  there = omega (arith, w.slotted.long)

  mid-there : head_size ≤ length mid
  mid-there = omega (arith, there, (root-around l there k).size)

  fits : Fits k
  unfolding told_right
  fits =
      let i = tells_is k.info (sum_of (decode (bytes_below l h k.slot))) w.told in
      let s = counts-small (bytes_below l h k.slot) (valid-below l (least_root h) h k.slot w.good) in
      let b : length (bytes_below l h k.slot) < 4294967296 = omega (arith, ap length w.bytes, w.size, w.most) in
      record {
        slot = omega (arith, node-there l h (least_root h) h k.slot w.good, w.slotted.long, w.most);
        bytes = omega (arith, i.0, s.b, b);
        chars = omega (arith, i.1, s.c, b);
        surrogates = omega (arith, i.2, s.u, b);
        breaks = omega (arith, i.3, s.l, b);
      }

  -- ── what the head reads ──

  root_is : root_of topped ≡ k
  root_is = height-same mid mid-there root-tells h refl ∙ root-set l there k fits

  height-is : height_of topped ≡ h
  height-is = height-set mid mid-there h

  first-is : free_of topped ≡ free_of l
  first-is = height-same mid mid-there free-tells h refl ∙ root-same l there free-tells k refl

  n-is : n_of topped ≡ n
  n-is = height-same mid mid-there n-tells h refl ∙ root-same l there n-tells k refl ∙ w.slotted.stored

  -- ── the slots are as they were ──

  long : length topped ≡ length l
  long = (height-around mid mid-there h).size ∙ (root-around l there k).size

  slots_same : (s : ℕ) → slot_of topped s ≡ slot_of l s
  slots_same s = (height-around mid mid-there h).slots s ∙ (root-around l there k).slots s

  same : KeptBelow l topped long h k.slot
  same = kept-below l topped long h k.slot (λ x g. slots_same x)

  chain : KeptChain l topped n n (free_of l)
  chain = kept-chain l topped n n (free_of l) w.slotted.chain (λ x g. slots_same x)

  free-same : (x : ℕ) → free topped n x ≡ free l n x
  free-same x = ap (λ (s : ℕ). frees topped n n s x) first-is ∙ chain.same x

  told-too : told_right topped h k ≡ true
  unfolding told_right
  told-too = ap (λ (b : List ℕ). tells k.info (sum_of (decode b))) same.bytes ∙ w.told

  in-tree : (x : ℕ) → in_tree topped x ≡ uses l h k.slot x
  in-tree x =
      ap (λ (i : ℕ). uses topped i (root_of topped).slot x) height-is
      ∙ ap (λ (r : Kid). uses topped h r.slot x) root_is
      ∙ same.used x

  -- THEOREM: a tree that stands, put on top, is a note
  pub top-held : Held topped n t
  top-held =
      record {
        least = w.least;
        most = w.most;
        slotted = record {
          long = long ∙ w.slotted.long;
          stored = n-is;
          chain = ap (chained topped n n) first-is ∙ chain.chain;
          once = λ x. omega (arith, free-same x, w.slotted.once x);
        };
        good =
            ap (λ (i : ℕ). sound topped (least_root i) i (root_of topped).slot) height-is
            ∙ ap (λ (r : Kid). sound topped (least_root h) h r.slot) root_is
            ∙ same.sound-too (least_root h)
            ∙ w.good;
        told = ap (λ (i : ℕ). told_right topped i (root_of topped)) height-is ∙ ap (told_right topped h) root_is ∙ told-too;
        each = λ x g. omega (arith, in-tree x, free-same x, w.each x g);
        bytes =
            ap (λ (i : ℕ). bytes_below topped i (root_of topped).slot) height-is
            ∙ ap (λ (r : Kid). bytes_below topped h r.slot) root_is
            ∙ same.bytes
            ∙ w.bytes;
        size = w.size;
      }

  pub top_kept : Kept l topped
  top_kept =
      record {
        front =
            laid-front 28 (h ∷ []) mid mid-there (omega arith) 8 (omega arith)
            ∙ laid-front 8 (kid_bytes k) l there (omega (arith, kid-length k)) 8 (omega arith);
        middle =
            laid-part 28 (h ∷ []) mid mid-there (omega arith) 29 32 (omega arith)
            ∙ laid-part 8 (kid_bytes k) l there (omega (arith, kid-length k)) 29 32 (omega (arith, kid-length k));
        rest = (height-around mid mid-there h).rest ∙ (root-around l there k).rest;
      }

  pub top-value : top_put l k h ≡ (value tt, topped)
  top-value = top-it l k h there

-- A slot given back behind an edit that left it unused: what the edit made stays, and has used that slot too. No call needs it; the laws do.
use mathlib.Core.Path.{◌≡◌, sym, ap, ◌∙◌}
use mathlib.Core.List.{List, [], ◌∷◌}
use Prim.Native.Nat.{ℕ, ◌+◌, ◌≤◌}
use native.Mathlib.Omega.{arith}
use lib.ListN.{length}
use Rattle.plain.specs.Utf8.{decode}
use Rattle.pool.specs.declared.Kid.{Kid}
use Rattle.nodes.proofs.Put.{same as node-same}
use Rattle.tree.specs.Tree.{hit, uses, seamless, told_right, tells, sum_of}
use Rattle.tree.proofs.Lists.{sum-cons, sum-none}
use Rattle.tree.proofs.Frame.{Kept, kept, KeptAll, kept-all, hit-self}
use Rattle.free_slots.proofs.Laws.{Given}
use Rattle.edit_steps.specs.Became.{uses_all, Became}
use Rattle.edit_steps.specs.Grown.{Grown, Shrunk}

module _ (m mid later : List ℕ) (n d b : ℕ) (u : ℕ → ℕ) (h : ℕ) (outs : List Kid) (t : List ℕ) (w : Became m mid n d u h outs t) (v : Given mid n b later)
    (off : uses_all mid h outs b ≡ 0) where
  long : length later ≡ length mid
  long = v.slotted.long ∙ sym w.slotted.long

  away : (x : ℕ) → 1 ≤ uses_all mid h outs x → x ≡ b → ⊥
  away x l q = omega (arith, ap (uses_all mid h outs) q, off)

  stay : KeptAll mid later long h outs
  stay = kept-all mid later long h outs (λ x l. v.others x (away x l))

  -- THEOREM: the slot is free, and counts among those that the edit used
  pub freed : Became m later n d (λ x. u x + hit b x) h outs t
  freed =
      record {
        slotted = v.slotted;
        conserve = λ x. omega (arith, stay.used x, w.conserve x, v.joins x);
        reads = stay.bytes ∙ w.reads;
        only = λ x z. v.others x (λ q. omega (arith, ap (hit b) q, hit-self b)) ∙ w.only x (omega arith);
        front = v.front ∙ w.front;
        rest = v.rest ∙ w.rest;
        spent = omega (arith, v.more, w.spent);
      }

module _ (m mid later : List ℕ) (n d b : ℕ) (u : ℕ → ℕ) (h : ℕ) (t : List ℕ) (v : Given mid n b later) where
  pub grown-freed : (outs : List Kid) → Grown m mid n d u h outs t → uses_all mid h outs b ≡ 0 → Grown m later n d (λ x. u x + hit b x) h outs t
  grown-freed outs w off =
      let k = stay m mid later n d b u h outs t w.became v off in
      record {
        became = freed m mid later n d b u h outs t w.became v off;
        each = k.fine-too ∙ w.each;
        seams = ap seamless k.texts ∙ w.seams;
      }

  module _ (out : Kid) (w : Shrunk m mid n d u h out t) (off : uses_all mid h (out ∷ []) b ≡ 0) where
    one-uses : (x : ℕ) → uses_all mid h (out ∷ []) x ≡ uses mid h out.slot x
    one-uses x = omega (arith, sum-cons (λ (k : Kid). uses mid h k.slot x) out [], sum-none (λ (k : Kid). uses mid h k.slot x))

    size : length later ≡ length mid
    size = v.slotted.long ∙ sym w.became.slotted.long

    own : Kept mid later size h out.slot
    own = kept mid later size h out.slot (λ x l. v.others x (λ q. omega (arith, one-uses x, ap (uses_all mid h (out ∷ [])) q, off)))

    pub shrunk-freed : (out.slot ≡ b → ⊥) → Shrunk m later n d (λ x. u x + hit b x) h out t
    unfolding told_right
    shrunk-freed q =
        record {
          became = freed m mid later n d b u h (out ∷ []) t w.became v off;
          good = own.sound-too 0 ∙ w.good;
          told = ap (λ (x : List ℕ). tells out.info (sum_of (decode x))) own.bytes ∙ w.told;
          few = omega (arith, (node-same later mid out.slot (v.others out.slot q) size).len, w.few);
        }

-- The rules by which edits are put together: another name for what was used, more spent, one after another, beside others, and among
-- siblings.
use mathlib.Core.Path.{◌≡◌, sym, ap, ◌∙◌}
use mathlib.Core.Bool.{true}
use mathlib.Core.List.{List, ◌++◌}
use Prim.Native.Nat.{ℕ, ◌+◌, ◌≤◌}
use native.Mathlib.Omega.{arith}
use lib.ListN.{length}
use Rattle.pool.specs.declared.Kid.{Kid}
use Rattle.tree.specs.Tree.{every, uses}
use Rattle.tree.specs.Kids.{below, fine}
use Rattle.tree.proofs.Lists.{join-append, sum-append, every_append}
use Rattle.tree.proofs.Frame.{KeptAll, kept-all}
use Rattle.edit_steps.specs.Became.{uses_all, bytes_all, free, Slotted, Became}

module _ (m later : List ℕ) (n d : ℕ) (u : ℕ → ℕ) (h : ℕ) (outs : List Kid) (t : List ℕ) (b : Became m later n d u h outs t) where
  pub became-as : (w : ℕ → ℕ) (v : List ℕ) → ((x : ℕ) → u x ≡ w x) → t ≡ v → Became m later n d w h outs v
  became-as w v e q =
      record {
        slotted = b.slotted;
        conserve = λ x. omega (arith, b.conserve x, e x);
        reads = b.reads ∙ q;
        only = λ x z. b.only x (omega (arith, e x));
        front = b.front;
        rest = b.rest;
        spent = b.spent;
      }

  pub became-more : (e : ℕ) → d ≤ e → Became m later n e u h outs t
  became-more e l =
      record {
        slotted = b.slotted;
        conserve = b.conserve;
        reads = b.reads;
        only = b.only;
        front = b.front;
        rest = b.rest;
        spent = omega (arith, b.spent);
      }

  -- what stands beside an edit stays as it is
  module _ (s : Slotted m n) where
    pub same_length : length later ≡ length m
    same_length = b.slotted.long ∙ sym s.long

    pub beside : (g : ℕ) (ks : List Kid) → ((x : ℕ) → uses_all m g ks x + u x + free m n x ≤ 1) → KeptAll m later same_length g ks
    beside g ks once = kept-all m later same_length g ks (λ x l. b.only x (omega (arith, once x)))

    -- an edit among siblings
    module _ (pre post : List Kid) (once : (x : ℕ) → uses_all m h pre x + u x + uses_all m h post x + free m n x ≤ 1) where
      before : KeptAll m later same_length h pre
      before = beside h pre (λ x. omega (arith, once x))

      behind : KeptAll m later same_length h post
      behind = beside h post (λ x. omega (arith, once x))

      sums : (x : ℕ) → uses_all later h (pre ++ (outs ++ post)) x ≡ uses_all m h pre x + (uses_all later h outs x + uses_all m h post x)
      sums x =
          sum-append (λ k. uses later h k.slot x) pre (outs ++ post)
          ∙ omega (arith, sum-append (λ k. uses later h k.slot x) outs post, before.used x, behind.used x)

      pub among : Became m later n d (λ x. uses_all m h pre x + (u x + uses_all m h post x)) h (pre ++ (outs ++ post)) (bytes_all m h pre ++ (t ++ bytes_all m h post))
      among =
          record {
            slotted = b.slotted;
            conserve = λ x. omega (arith, sums x, b.conserve x);
            reads =
                join-append (below later h) pre (outs ++ post)
                ∙ ap (λ (z : List ℕ). z ++ bytes_all later h (outs ++ post)) before.bytes
                ∙ ap (λ (z : List ℕ). bytes_all m h pre ++ z)
                (join-append (below later h) outs post
                ∙ ap (λ (z : List ℕ). z ++ bytes_all later h post) b.reads
                ∙ ap (λ (z : List ℕ). t ++ z) behind.bytes);
            only = λ x z. b.only x (omega arith);
            front = b.front;
            rest = b.rest;
            spent = b.spent;
          }

      pub among-fine : every (fine m h) pre ≡ true → every (fine later h) outs ≡ true → every (fine m h) post ≡ true → every (fine later h) (pre ++ (outs ++ post)) ≡ true
      among-fine e f g =
          every_append (fine later h) pre (outs ++ post) (before.fine-too ∙ e) (every_append (fine later h) outs post f (behind.fine-too ∙ g))

-- an edit from a to b of what an edit from m to a made, with the slots k beside it
pub then : (m a later : List ℕ) (n d e : ℕ) (u k : ℕ → ℕ) (h : ℕ) (mid : List Kid) (t : List ℕ) (w : ℕ → ℕ) (g : ℕ) (outs : List Kid) (v : List ℕ)
    → Became m a n d u h mid t → ((x : ℕ) → w x ≡ k x + uses_all a h mid x) → Became a later n e w g outs v → Became m later n (d + e) (λ x. k x + u x) g outs v
then m a later n d e u k h mid t w g outs v p q r =
    record {
      slotted = r.slotted;
      conserve = λ x. omega (arith, p.conserve x, r.conserve x, q x);
      reads = r.reads;
      only = λ x z. r.only x (omega (arith, p.conserve x, q x)) ∙ p.only x (omega arith);
      front = r.front ∙ p.front;
      rest = r.rest ∙ p.rest;
      spent = omega (arith, p.spent, r.spent);
    }

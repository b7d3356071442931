-- The laws of the steps: children that are fine and lie apart, stored in the list whose slot is theirs, are what the edit made of it. A step spends
-- at most one free slot.
use mathlib.Core.Path.{◌≡◌, refl, sym, ap, ◌∙◌}
use mathlib.Core.Bool.{Bool, true, false, not, ◌&&◌}
use mathlib.Core.List.{List, [], ◌∷◌, ◌++◌, append-nil, map}
use Prim.Native.Nat.{ℕ, suc, ◌+◌, ◌≤◌, ◌<◌}
use native.Mathlib.Omega.{arith}
use lib.ListN.{length, length-append}
use Rattle.plain.specs.Count.{cr_last, lf_first}
use Rattle.plain.specs.Outcome.{Outcome, Outcome.value}
use Rattle.pool.specs.declared.Kid.{Kid}
use Rattle.node_children.specs.Kids.{kids, list_of}
use Rattle.node_children.proofs.Lists.{kids-of}
use Rattle.nodes.specs.Node.{too_wide, narrowed, total_of, list_put}
use Rattle.tree.specs.Tree.{every, hit, uses, seamless, least_at, told_right, sound}
use Rattle.tree.specs.Kids.{below, fine}
use Rattle.tree.proofs.Lists.{both, join-append, join-cons, join-none, sum-append, every-none, every-head, every-cons, every_append, every-left, every-right}
use Rattle.tree.proofs.Seams.{lf-append, seam-at, seam-left, seam-right}
use Rattle.tree.proofs.Frame.{KeptAll, kept-all}
use Rattle.note_head.specs.Head.{free_of}
use Rattle.free_slots.specs.Slots.{taken_memory}
use Rattle.free_slots.proofs.Laws.{Taken, first-there, taken-value, taken_is}
use Rattle.edit_steps.specs.Made.{Made, Made.split, sized}
use Rattle.edit_steps.specs.Became.{uses_all, bytes_all, free, spare, Slotted, Became}
use Rattle.edit_steps.specs.Grown.{kid, MadeIs}
use Rattle.edit_steps.proofs.Rules.{same_length, beside}
use Rattle.list_step.specs.Steps.{keeping, laying, parting}
use Rattle.list_step.proofs.Rules.{list-len}
use Rattle.list_step.proofs.Stored.{keeping-is, laying-by, parting-is}
use Rattle.list_step.proofs.Totals.{filled}
use Rattle.list_step.proofs.Laid.{made_more}
use Rattle.list_step.proofs.Family.{Family, counts_of, narrow-enough, family-told, laid-made, put-laid, is-sound, is-told, is-became}

-- a step is accepted, and made this of the node in slot s
pub record Makes (o : Outcome (Made × List ℕ)) (m : List ℕ) (n : ℕ) (u : ℕ → ℕ) (h s : ℕ) (t : List ℕ) : Type 0 where
  pub made : Made
  pub later : List ℕ
  pub accepted : o ≡ value (made, later)
  pub is : MadeIs m later n 1 u h s t made

-- two texts
seam-pair : (a b : List ℕ) → (cr_last a && lf_first b) ≡ false → seamless (a ∷ b ∷ []) ≡ true
unfolding seamless
seam-pair a b e = both (not (cr_last a && lf_first b)) true (ap not e) refl

-- the texts of two families, where the whole has whole seams
between : (m : List ℕ) (g : ℕ) (a b : List Kid) → every (fine m g) (a ++ b) ≡ true → seamless (map (below m g) (a ++ b)) ≡ true → 1 ≤ length b
    → (cr_last (bytes_all m g a) && lf_first (bytes_all m g b)) ≡ false
between m g a [] e s h = absurd (omega arith)
between m g a (k ∷ r) e s h =
    ap (λ (t : List ℕ). cr_last (bytes_all m g a) && lf_first t) (join-cons (below m g) k r)
    ∙ ap (λ (t : Bool). cr_last (bytes_all m g a) && t) (lf-append (below m g k) (bytes_all m g r) (filled m g k (every-head (fine m g) k r (every-right (fine m g) a (k ∷ r) e))))
    ∙ seam-at (below m g) (fine m g) (filled m g) a k r (every-left (fine m g) a (k ∷ r) e) s

-- the text of one child
pub text-one : (m : List ℕ) (h : ℕ) (k : Kid) → bytes_all m h (k ∷ []) ≡ below m h k
text-one m h k = join-cons (below m h) k [] ∙ ap (λ (l : List ℕ). below m h k ++ l) (join-none (below m h)) ∙ append-nil (below m h k)

four : (g : ℕ) → least_at (suc g) ≡ 4
unfolding least_at
four g = refl

-- ── one list ──

-- the step, where the counts of the children fit 32 bits
kept-is : (m : List ℕ) (p : ℕ) (ks : List Kid) → too_wide (total_of ks) ≡ false → keeping m p (list_of ks) ≡ value (sized 4 (length ks) (counts_of ks), list_put m p (list_of ks))
kept-is m p ks e =
    keeping-is m p (list_of ks) (ap (λ (l : List Kid). too_wide (total_of l)) (kids-of ks) ∙ e)
    ∙ ap (λ (l : List Kid). value (sized 4 (list_of ks).len (narrowed (total_of l)), list_put m p (list_of ks))) (kids-of ks)
    ∙ ap (λ (j : ℕ). value (sized 4 j (counts_of ks), list_put m p (list_of ks))) (list-len ks)

module _ (m : List ℕ) (n g p : ℕ) (ks : List Kid) (f : Family m n g p ks) where
  abbrev u : ℕ → ℕ
  u x = hit p x + uses_all m g ks x

  abbrev after : List ℕ
  after = list_put m p (list_of ks)

  pub fine-list : 4 ≤ length ks → fine after (suc g) (kid p (counts_of ks)) ≡ true
  fine-list h =
      both (sound after (least_at (suc g)) (suc g) p) (told_right after (suc g) (kid p (counts_of ks))) (is-sound m n g p ks f (least_at (suc g)) (omega (arith, four g))) (is-told m n g p ks f)

  -- THEOREM: children stored in one list
  pub keep-makes : Makes (keeping m p (list_of ks)) m n u (suc g) p (bytes_all m g ks)
  keep-makes =
      let made = sized 4 (length ks) (counts_of ks) in
      record {
        made = made;
        later = after;
        accepted = kept-is m p ks (narrow-enough m n g p ks f);
        is = made_more m after n 0 1 u (suc g) p (bytes_all m g ks) made (laid-made m after n g p ks f (put-laid m n g p ks f) (counts_of ks) (family-told m n g p ks f)) (omega arith);
      }

-- ── two lists ──

-- children of which a go to slot p and b to a free slot
pub record Families (m : List ℕ) (n g p : ℕ) (a b : List Kid) : Type 0 where
  pub few : n < 4294967296
  pub slotted : Slotted m n
  pub there : p < n
  pub left-most : length a ≤ 16
  pub right-most : length b ≤ 16
  pub left-least : 4 ≤ length a
  pub right-least : 4 ≤ length b
  pub each : every (fine m g) (a ++ b) ≡ true
  pub seams : seamless (map (below m g) (a ++ b)) ≡ true
  pub once : (x : ℕ) → hit p x + uses_all m g (a ++ b) x + free m n x ≤ 1
  pub small : length (bytes_all m g (a ++ b)) < 4294967296
  pub room : 1 ≤ spare m n

module _ (m : List ℕ) (n g p : ℕ) (a b : List Kid) (f : Families m n g p a b) where
  -- the slot that is taken
  abbrev v : ℕ
  v = free_of m

  abbrev l : List ℕ
  l = taken_memory m

  there : free_of m < n
  there = first-there m n f.few f.slotted f.room

  t : Taken m n v l
  t = taken_is m n f.few f.slotted there

  long : length l ≡ length m
  long = t.slotted.long ∙ sym f.slotted.long

  kept-a : KeptAll m l long g a
  kept-a = kept-all m l long g a (λ x h. t.same x)

  kept_b : KeptAll m l long g b
  kept_b = kept-all m l long g b (λ x h. t.same x)

  apart : (x : ℕ) → hit p x + (uses_all m g a x + uses_all m g b x) + free m n x ≤ 1
  apart x = omega (arith, f.once x, sum-append (λ (k : Kid). uses m g k.slot x) a b)

  text-is : bytes_all m g (a ++ b) ≡ bytes_all m g a ++ bytes_all m g b
  text-is = join-append (below m g) a b

  sizes : length (bytes_all m g a) + length (bytes_all m g b) < 4294967296
  sizes = omega (arith, f.small, ap length text-is, length-append (bytes_all m g a) (bytes_all m g b))

  -- ── the left list ──

  left-family : Family l n g p a
  left-family =
      record {
        few = f.few;
        slotted = t.slotted;
        there = f.there;
        most = f.left-most;
        each = kept-a.fine-too ∙ every-left (fine m g) a b f.each;
        seams = ap seamless kept-a.texts ∙ seam-left (below m g) (fine m g) (filled m g) a b f.seams;
        once = λ x. omega (arith, apart x, kept-a.used x, t.leaves x);
        small = omega (arith, sizes, ap length kept-a.bytes);
      }

  abbrev first : List ℕ
  first = list_put l p (list_of a)

  abbrev left : Kid
  left = kid p (counts_of a)

  abbrev ul : ℕ → ℕ
  ul x = hit p x + uses_all l g a x

  became-left : Became l first n 0 ul (suc g) (left ∷ []) (bytes_all l g a)
  became-left = is-became l n g p a left-family

  abbrev long-left : length first ≡ length l
  long-left = same_length l first n 0 ul (suc g) (left ∷ []) (bytes_all l g a) became-left t.slotted

  beside-b : KeptAll l first long-left g b
  beside-b =
      beside l first n 0 ul (suc g) (left ∷ []) (bytes_all l g a) became-left t.slotted g b (λ x. omega (arith, apart x, kept-a.used x, kept_b.used x, t.leaves x))

  -- ── the right list ──

  right-family : Family first n g v b
  right-family =
      record {
        few = f.few;
        slotted = became-left.slotted;
        there = t.within;
        most = f.right-most;
        each = beside-b.fine-too ∙ kept_b.fine-too ∙ every-right (fine m g) a b f.each;
        seams = ap seamless (beside-b.texts ∙ kept_b.texts) ∙ seam-right (below m g) (fine m g) (filled m g) a b f.seams;
        once = λ x. omega (arith, apart x, kept-a.used x, kept_b.used x, beside-b.used x, t.leaves x, became-left.conserve x);
        small = omega (arith, sizes, ap length (beside-b.bytes ∙ kept_b.bytes));
      }

  abbrev last : List ℕ
  last = list_put first v (list_of b)

  abbrev right : Kid
  right = kid v (counts_of b)

  abbrev ur : ℕ → ℕ
  ur x = hit v x + uses_all first g b x

  became-right : Became first last n 0 ur (suc g) (right ∷ []) (bytes_all first g b)
  became-right = is-became first n g v b right-family

  abbrev long-right : length last ≡ length first
  long-right = same_length first last n 0 ur (suc g) (right ∷ []) (bytes_all first g b) became-right became-left.slotted

  beside-left : KeptAll first last long-right (suc g) (left ∷ [])
  beside-left =
      beside first last n 0 ur (suc g) (right ∷ []) (bytes_all first g b) became-right became-left.slotted (suc g) (left ∷ [])
      (λ x. omega (arith, apart x, kept-a.used x, kept_b.used x, beside-b.used x, t.leaves x, became-left.conserve x))

  -- ── both ──

  both-uses : (x : ℕ) → uses_all last (suc g) (left ∷ right ∷ []) x ≡ uses_all last (suc g) (left ∷ []) x + uses_all last (suc g) (right ∷ []) x
  both-uses x = sum-append (λ (k : Kid). uses last (suc g) k.slot x) (left ∷ []) (right ∷ [])

  became-both : Became m last n 1 (λ x. hit p x + uses_all m g (a ++ b) x) (suc g) (left ∷ right ∷ []) (bytes_all m g (a ++ b))
  became-both =
      record {
        slotted = became-right.slotted;
        conserve = λ x. omega (
          arith,
          both-uses x,
          beside-left.used x,
          became-left.conserve x,
          became-right.conserve x,
          kept-a.used x,
          kept_b.used x,
          beside-b.used x,
          t.leaves x,
          sum-append (λ (k : Kid). uses m g k.slot x) a b,
        );
        reads =
            join-append (below last (suc g)) (left ∷ []) (right ∷ [])
            ∙ ap (λ (z : List ℕ). z ++ bytes_all last (suc g) (right ∷ [])) (beside-left.bytes ∙ became-left.reads ∙ kept-a.bytes)
            ∙ ap (λ (z : List ℕ). bytes_all m g a ++ z) (became-right.reads ∙ beside-b.bytes ∙ kept_b.bytes)
            ∙ sym text-is;
        only = λ x z.
            became-right.only x (omega (arith, sum-append (λ (k : Kid). uses m g k.slot x) a b, kept-a.used x, kept_b.used x, beside-b.used x, t.leaves x, became-left.conserve x))
            ∙ became-left.only x (omega (arith, sum-append (λ (k : Kid). uses m g k.slot x) a b, kept-a.used x, t.leaves x))
            ∙ t.same x;
        front = became-right.front ∙ became-left.front ∙ t.front;
        rest = became-right.rest ∙ became-left.rest ∙ t.rest;
        spent = omega (arith, t.spent, became-left.spent, became-right.spent);
      }

  left-text : below last (suc g) left ≡ bytes_all m g a
  left-text = sym (text-one last (suc g) left) ∙ beside-left.bytes ∙ became-left.reads ∙ kept-a.bytes

  right-text : below last (suc g) right ≡ bytes_all m g b
  right-text = sym (text-one last (suc g) right) ∙ became-right.reads ∙ beside-b.bytes ∙ kept_b.bytes

  -- the seam between the two
  seam-two : seamless (map (below last (suc g)) (left ∷ right ∷ [])) ≡ true
  seam-two =
      seam-pair (below last (suc g) left) (below last (suc g) right)
      (ap (λ (x : List ℕ). cr_last x && lf_first (below last (suc g) right)) left-text
      ∙ ap (λ (x : List ℕ). cr_last (bytes_all m g a) && lf_first x) right-text
      ∙ between m g a b f.each f.seams (omega (arith, f.right-least)))

  fine-two : every (fine last (suc g)) (left ∷ right ∷ []) ≡ true
  fine-two =
      every_append (fine last (suc g)) (left ∷ []) (right ∷ [])
      (beside-left.fine-too ∙ every-cons (fine first (suc g)) left [] (fine-list l n g p a left-family f.left-least) (every-none (fine first (suc g))))
      (every-cons (fine last (suc g)) right [] (fine-list first n g v b right-family f.right-least) (every-none (fine last (suc g))))

  -- THEOREM: children stored in two lists
  pub part-makes : Makes (parting m p (list_of a) (list_of b)) m n (λ x. hit p x + uses_all m g (a ++ b) x) (suc g) p (bytes_all m g (a ++ b))
  part-makes =
      record {
        made = split (counts_of a) v (counts_of b);
        later = last;
        accepted =
            parting-is m p (list_of a) (list_of b) (ap (λ (k : List Kid). too_wide (total_of k)) (kids-of a) ∙ narrow-enough l n g p a left-family)
            (ap (λ (k : List Kid). too_wide (total_of k)) (kids-of b) ∙ narrow-enough first n g v b right-family)
            ∙ ap (λ (k : List Kid). laying m p (list_of a) (counts_of k) (list_of b) (counts_of (kids (list_of b)))) (kids-of a)
            ∙ ap (λ (k : List Kid). laying m p (list_of a) (counts_of a) (list_of b) (counts_of k)) (kids-of b)
            ∙ laying-by m p (list_of a) (counts_of a) (list_of b) (counts_of b) (value (v, l)) (taken-value m n f.few f.slotted there);
        is = record {
          became = became-both;
          each = fine-two;
          seams = seam-two;
        };
      }

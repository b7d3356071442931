-- What an edit made of the root of a note, put into the head, is a note again: the root with new counts, a list above the two that it became, or
-- its only child.
use mathlib.Core.Path.{◌≡◌, refl, sym, ap, ◌∙◌}
use mathlib.Core.Bool.{true, false}
use mathlib.Core.List.{List, [], ◌∷◌}
use Prim.Native.Nat.{ℕ, zero, suc, ◌+◌, ◌-◌, ◌≤◌, ◌<◌}
use native.Mathlib.Omega.{arith}
use native.Mathlib.Numerals.{add-one}
use native.Mathlib.Decide.{ℕ_discrete}
use lib.ListN.{length, get_or}
use Rattle.plain.specs.Utf8.{decode}
use Rattle.plain.specs.Outcome.{Outcome.value}
use Rattle.plain_note.specs.Note.{limit}
use Rattle.text_info.specs.declared.TextInfo.{TextInfo}
use Rattle.pool.specs.declared.Kid.{Kid}
use Rattle.pool.specs.Slot.{len_of, no_kid}
use Rattle.node_children.specs.Kids.{list_of}
use Rattle.nodes.specs.Node.{children_of, list_put}
use Rattle.tree.specs.Tree.{join_over, every, bytes_below, hit, uses, sum_of, tells, seamless, least_root, told_right, sound}
use Rattle.tree.specs.Kids.{below, fine}
use Rattle.tree.proofs.Lists.{join-none, every-head, every-tail}
use Rattle.tree.proofs.Sound.{list-bytes, list-uses, children-length, ListSound, list-sound}
use Rattle.tree.proofs.Frame.{hit-self, Kept as KeptBelow, kept as kept-below, KeptAll, kept-all}
use Rattle.note_head.specs.Head.{root_of, height_of, free_of}
use Rattle.memory.specs.Formed.{in_tree}
use Rattle.edit_steps.specs.Made.{Made, Made.same, Made.split, Made.small, Made.apart}
use Rattle.edit_steps.specs.Became.{uses_all, bytes_all, free, spare, Became}
use Rattle.edit_steps.specs.Grown.{Grown, Shrunk, kid, MadeIs}
use Rattle.free_slots.specs.Slots.{taken_memory, given_memory}
use Rattle.free_slots.proofs.Laws.{Taken, first-there, taken-value, taken_is, Given, given-value, given_is}
use Rattle.list_step.proofs.Totals.{child-there, node-there}
use Rattle.list_step.proofs.Laws.{text-one}
use Rattle.list_step.proofs.Family.{Family, counts_of, narrow-enough, is-sound, is-told, is-became}
use Rattle.edit_steps.specs.Held.{Held, Kept}
use Rattle.edit_steps.proofs.Laws.{held_low, held-once}
use Rattle.edit_steps.proofs.Keeps.{kept-twice, kept-but-free}
use Rattle.root_step.specs.Root.{top_put, raised, grown, only, gave_way, shrunk, rooted}
use Rattle.root_step.proofs.Rules.{raised_by, grown-it, gave-by, only-many, only_one, only-leaf, shrunk-stays, shrunk-gives}
use Rattle.root_step.proofs.Parts.{root-same, height-same, two-least, none-least, resized, child-root, child-told, one-used, one_of, none_of, two-or-more}
use Rattle.root_step.proofs.Topped.{Stands, topped, top-held, top_kept, top-value}

pub record RootHeld (a : List ℕ) (n : ℕ) (new m : List ℕ) (made : Made) : Type 0 where
  pub later : List ℕ
  pub is : rooted a made ≡ (value tt, later)
  pub held : Held later n new
  pub kept : Kept m later

-- ── after an edit of a note's tree ──

module _ (m a : List ℕ) (n d : ℕ) (t new : List ℕ) (w : Held m n t) (small-enough : length new ≤ limit n + 1) where
  abbrev s : ℕ
  s = (root_of m).slot

  -- a node on top of what an edit left
  stood : (l : List ℕ) (k : Kid) (h : ℕ) → Stands l n k h new → (made : Made) → rooted a made ≡ top_put l k h → Kept m l → RootHeld a n new m made
  stood l k h z made e c =
      record {
        later = topped l n k h new z;
        is = e ∙ top-value l n k h new z;
        held = top-held l n k h new z;
        kept = kept-twice m l (topped l n k h new z) c (top_kept l n k h new z);
      }

  module _ (h : ℕ) (high : height_of m ≡ h) (outs : List Kid) (b : Became m a n d (in_tree m) h outs new) where
    head-kept : Kept m a
    head-kept = kept-but-free m a b.front b.rest

    slot_is : (root_of a).slot ≡ s
    slot_is = ap (λ (k : Kid). k.slot) (root-same m a b.front)

    height-is : height_of a ≡ h
    height-is = height-same m a b.front ∙ high

    once : (x : ℕ) → uses_all a h outs x + free a n x ≤ 1
    once x = omega (arith, b.conserve x, held-once m n t w x)

    whole : (x : ℕ) → x < n → uses_all a h outs x + free a n x ≡ 1
    whole x l = omega (arith, b.conserve x, w.each x l)

  -- ── one node ──

  module _ (h : ℕ) (high : height_of m ≡ h) (k : Kid) (b : Became m a n d (in_tree m) h (k ∷ []) new) where
    text-is : bytes_below a h k.slot ≡ new
    text-is = sym (text-one a h k) ∙ b.reads

    stands : sound a (least_root h) h k.slot ≡ true → told_right a h k ≡ true → Stands a n k h new
    stands e f =
        record {
          least = w.least;
          most = w.most;
          slotted = b.slotted;
          good = e;
          told = f;
          each = λ x l. omega (arith, one-used a h k x, whole h high (k ∷ []) b x l);
          bytes = text-is;
          size = small-enough;
        }

  module _ (h : ℕ) (high : height_of m ≡ h) (i : TextInfo) where
    abbrev own : Kid
    own = kid s i

    same-held : Grown m a n d (in_tree m) h (own ∷ []) new → RootHeld a n new m (same i)
    unfolding rooted
    same-held g =
        let b = g.became in
        let f = every-head (fine a h) own [] g.each in
        stood a own h (stands h high own b (child-root a h own f) (child-told a h own f)) (same i)
        (ap (λ (q : ℕ). top_put a (kid q i) (height_of a)) (slot_is h high (own ∷ []) b) ∙ ap (top_put a own) (height-is h high (own ∷ []) b))
        (head-kept h high (own ∷ []) b)

    stay-held : (z : Shrunk m a n d (in_tree m) h own new) → sound a (least_root h) h s ≡ true → only a s ≡ false → RootHeld a n new m (small i)
    unfolding rooted
    stay-held z e f =
        let b = z.became in
        stood a own h (stands h high own b e z.told) (small i)
        (ap (λ (q : ℕ). shrunk a q i) (slot_is h high (own ∷ []) b) ∙ shrunk-stays a s i f ∙ ap (top_put a own) (height-is h high (own ∷ []) b))
        (head-kept h high (own ∷ []) b)

  few : n < 4294967296
  few = omega (arith, w.most)

  -- ── a list whose children have height g ──

  module _ (g : ℕ) (high : height_of m ≡ suc g) (i : TextInfo) (z : Shrunk m a n d (in_tree m) (suc g) (kid s i) new) where
    abbrev whom : Kid
    whom = kid s i

    b : Became m a n d (in_tree m) (suc g) (whom ∷ []) new
    b = z.became

    list : ListSound a 0 g s
    list = list-sound a 0 g s z.good

    number_of : length (children_of a s) ≡ len_of a s
    number_of = children-length a s list.list

    -- with no child it would have no text
    some : 1 ≤ length new → len_of a s ≡ 0 → ⊥
    some l e =
        let text = sym (text-is (suc g) high whom b) ∙ list-bytes a s g ∙ ap (join_over (below a g)) (none_of (children_of a s) (number_of ∙ e)) ∙ join-none (below a g) in
        omega (arith, ap length text)

    -- its only child takes its place
    module _ (one : len_of a s ≡ 1) where
      abbrev child : Kid
      child = get_or (children_of a s) 0 no_kid

      children : children_of a s ≡ child ∷ []
      children = one_of (children_of a s) (number_of ∙ one)

      fine-child : fine a g child ≡ true
      fine-child = every-head (fine a g) child [] (sym (ap (every (fine a g)) children) ∙ list.each)

      node-uses : (x : ℕ) → uses a (suc g) s x ≡ hit s x + uses a g child.slot x
      node-uses x = list-uses a s g x ∙ ap (λ (ks : List Kid). hit s x + uses_all a g ks x) children ∙ ap (λ (j : ℕ). hit s x + j) (one-used a g child x)

      alone : (x : ℕ) → hit s x + uses a g child.slot x + free a n x ≤ 1
      alone x = omega (arith, once (suc g) high (whom ∷ []) b x, one-used a (suc g) whom x, node-uses x)

      inside : s < n
      inside = omega (arith, node-there a (suc g) 0 (suc g) s z.good, b.slotted.long)

      not_free : free a n s ≡ 0
      not_free = omega (arith, alone s, hit-self s)

      abbrev left : List ℕ
      left = given_memory a s

      gift : Given a n s left
      gift = given_is a n few b.slotted s inside not_free

      long : length left ≡ length a
      long = gift.slotted.long ∙ sym b.slotted.long

      same-child : KeptBelow a left long g child.slot
      same-child = kept-below a left long g child.slot (λ x u. gift.others x (λ q. omega (arith, alone x, ap (hit s) q ∙ hit-self s)))

      told_child : told_right left g child ≡ true
      unfolding told_right
      told_child = ap (λ (y : List ℕ). tells child.info (sum_of (decode y))) same-child.bytes ∙ child-told a g child fine-child

      stands-child : Stands left n child g new
      stands-child =
          record {
            least = w.least;
            most = w.most;
            slotted = gift.slotted;
            good = same-child.sound-too (least_root g) ∙ child-root a g child fine-child;
            told = told_child;
            each = λ x y. omega (arith, same-child.used x, gift.joins x, node-uses x, one-used a (suc g) whom x, whole (suc g) high (whom ∷ []) b x y);
            bytes =
                same-child.bytes
                ∙ sym (text-one a g child)
                ∙ sym (ap (join_over (below a g)) children)
                ∙ sym (list-bytes a s g)
                ∙ text-is (suc g) high whom b;
            size = small-enough;
          }

      high-now : height_of a ≡ suc g
      high-now = height-is (suc g) high (whom ∷ []) b

      way-is : shrunk a s i ≡ top_put left child g
      way-is =
          let y : suc g - 1 ≡ g = omega arith in
          shrunk-gives a s i (only_one a s (λ q. omega (arith, high-now)) list.list one)
          ∙ ap (gave_way a s child) high-now
          ∙ gave-by a s child (suc g) (value left) (given-value a n few b.slotted s inside not_free)
          ∙ ap (top_put left child) y

      way-held : RootHeld a n new m (small i)
      unfolding rooted
      way-held =
          stood left child g stands-child (small i) (ap (λ (q : ℕ). shrunk a q i) (slot_is (suc g) high (whom ∷ []) b) ∙ way-is)
          (kept-twice m a left (head-kept (suc g) high (whom ∷ []) b) (kept-but-free a left gift.front gift.rest))

  small-held : (h : ℕ) (high : height_of m ≡ h) (i : TextInfo) → Shrunk m a n d (in_tree m) h (kid s i) new → (0 < h → 1 ≤ length new) → RootHeld a n new m (small i)
  small-held zero high i z f =
      stay-held 0 high i z (ap (λ (j : ℕ). sound a j 0 s) none-least ∙ z.good) (only-leaf a s (height-is 0 high (kid s i ∷ []) z.became))
  small-held (suc g) high i z f =
      elim (ℕ_discrete (len_of a s) 1) [
        | yes q ↦ way-held g high i z q
        | no q ↦ stay-held (suc g) high i z
            (resized a 0 (least_root (suc g)) (suc g) s (omega (arith, two-least g, two-or-more (len_of a s) (some g high i z (f (omega arith))) q)) z.good) (only-many a s q)
      ]

  -- ── two nodes, and a list above them ──

  module _ (room : d + 1 ≤ spare m n) (h : ℕ) (high : height_of m ≡ h) (i : TextInfo) (v : ℕ) (j : TextInfo)
      (g : Grown m a n d (in_tree m) h (kid s i ∷ kid v j ∷ []) new) where
    abbrev pair : List Kid
    pair = kid s i ∷ kid v j ∷ []

    made-two : Became m a n d (in_tree m) h pair new
    made-two = g.became

    abbrev p : ℕ
    p = free_of a

    abbrev under : List ℕ
    under = taken_memory a

    there : free_of a < n
    there = first-there a n few made-two.slotted (omega (arith, made-two.spent, room))

    took : Taken a n p under
    took = taken_is a n few made-two.slotted there

    as_long : length under ≡ length a
    as_long = took.slotted.long ∙ sym made-two.slotted.long

    kept-two : KeptAll a under as_long h pair
    kept-two = kept-all a under as_long h pair (λ x y. took.same x)

    family : Family under n h p pair
    family =
        record {
          few = few;
          slotted = took.slotted;
          there = took.within;
          most = omega arith;
          each = kept-two.fine-too ∙ g.each;
          seams = ap seamless kept-two.texts ∙ g.seams;
          once = λ x. omega (arith, took.leaves x, kept-two.used x, once h high pair made-two x);
          small = omega (arith, ap length (kept-two.bytes ∙ made-two.reads), small-enough, w.most);
        }

    abbrev top : Kid
    top = kid p (counts_of pair)

    abbrev up : List ℕ
    up = list_put under p (list_of pair)

    became-up : Became under up n 0 (λ x. hit p x + uses_all under h pair x) (suc h) (top ∷ []) (bytes_all under h pair)
    became-up = is-became under n h p pair family

    stands_up : Stands up n top (suc h) new
    stands_up =
        record {
          least = w.least;
          most = w.most;
          slotted = became-up.slotted;
          good = is-sound under n h p pair family (least_root (suc h)) (omega (arith, two-least h));
          told = is-told under n h p pair family;
          each = λ x y. omega (arith, one-used up (suc h) top x, became-up.conserve x, took.leaves x, kept-two.used x, whole h high pair made-two x y);
          bytes = sym (text-one up (suc h) top) ∙ became-up.reads ∙ kept-two.bytes ∙ made-two.reads;
          size = small-enough;
        }

    up_kept : Kept a up
    up_kept =
        kept-twice a under up (kept-but-free a under took.front took.rest) (kept-but-free under up became-up.front became-up.rest)

    -- the second node's slot is one of n, and the tree is low
    second : v ≤ 4294967295
    second =
        let f = every-head (fine a h) (kid v j) [] (every-tail (fine a h) (kid s i) (kid v j ∷ []) g.each) in
        omega (arith, child-there a h (kid v j) f, made-two.slotted.long, w.most)

    not_last : height_of a ≡ 255 → ⊥
    not_last q = omega (arith, height-same m a made-two.front, held_low m n t w)

    up_is : grown a (kid s i) v j ≡ top_put up top (suc h)
    up_is =
        grown-it a (kid s i) v j second not_last
        ∙ ap (raised a pair) (height-is h high pair made-two)
        ∙ raised_by a pair h (value (p, under)) (narrow-enough under n h p pair family) (taken-value a n few made-two.slotted there)
        ∙ ap (top_put up top) (add-one h)

    split-held : RootHeld a n new m (split i v j)
    unfolding rooted
    split-held =
        stood up top (suc h) stands_up (split i v j) (ap (λ (q : ℕ). grown a (kid q i) v j) (slot_is h high pair made-two) ∙ up_is)
        (kept-twice m a up (head-kept h high pair made-two) up_kept)

-- THEOREM: what an edit made of the root, put into the head, is a note again. A tree that is no leaf has bytes left.
pub root-held : (m a : List ℕ) (n d : ℕ) (t new : List ℕ) (made : Made) → Held m n t → MadeIs m a n d (in_tree m) (height_of m) (root_of m).slot new made
    → d + 1 ≤ spare m n → length new ≤ limit n + 1 → (0 < height_of m → 1 ≤ length new) → RootHeld a n new m made
root-held m a n d t new (same i) w g room l f = same-held m a n d t new w l (height_of m) refl i g
root-held m a n d t new (split i v j) w g room l f = split-held m a n d t new w l room (height_of m) refl i v j g
root-held m a n d t new (small i) w g room l f = small-held m a n d t new w l (height_of m) refl i g f
root-held m a n d t new apart w g room l f = absurd g

-- The law of an edit of the leaf that a search finds: in a sound tree with a free slot for each level it is accepted, and the tree becomes what
-- `MadeIs` says, with the leaf's new text between those on its left and on its right.
use mathlib.Core.Path.{◌≡◌, refl, sym, ap, subst, ◌∙◌}
use mathlib.Core.Bool.{true, ◌&&◌}
use mathlib.Core.List.{List, [], ◌∷◌, ◌++◌, map, append-nil}
use mathlib.Core.Logic.{◌⊎◌, inl, inr}
use Prim.Native.Nat.{ℕ, zero, suc, ◌+◌, ◌-◌, ◌≤◌, ◌<◌}
use native.Mathlib.Omega.{arith}
use lib.ListN.{length, length-append}
use Rattle.plain.specs.Utf8.{valid_utf8}
use Rattle.plain.specs.Count.{cr_last, lf_first}
use Rattle.plain.specs.Place.{is_boundary}
use Rattle.plain.specs.Edit.{replaced}
use Rattle.plain.specs.Outcome.{Outcome, Outcome.value}
use Rattle.text_info.specs.declared.TextSum.{TextSum}
use Rattle.pool.specs.declared.Kid.{Kid}
use Rattle.child_search.specs.declared.Measure.{Measure}
use Rattle.nodes.specs.Node.{text_of}
use Rattle.nodes.proofs.Heads.{list-says}
use Rattle.tree.specs.Tree.{every, hit, uses, sound, seamless, least_at, least_root}
use Rattle.tree.specs.Kids.{below, fine}
use Rattle.tree.proofs.Lists.{sum-append, sum-cons, every-left, every-right, every-head, every-tail}
use Rattle.tree.proofs.Seams.{seam-left, seam-right}
use Rattle.tree.proofs.Frame.{hit-self}
use Rattle.tree.proofs.Sound.{leaf-uses, list-uses, children-length, leaf-sound, ListSound, list-sound, child-sound}
use Rattle.tree_search.specs.Search.{count_in}
use Rattle.tree_search.proofs.Seams.{Whole}
use Rattle.tree_search.proofs.Way.{Turn, Way}
use Rattle.tree_search.proofs.Parted.{Ends, least-list}
use Rattle.list_step.proofs.Totals.{filled}
use Rattle.mend_step.proofs.Among.{made_as}
use Rattle.edit_steps.specs.Made.{Made}
use Rattle.edit_steps.specs.Acts.{Act, settled, reading}
use Rattle.edit_steps.specs.Became.{uses_all, bytes_all, free, spare, Slotted}
use Rattle.edit_steps.specs.Grown.{MadeIs}
use Rattle.leaf_step.proofs.Laws.{Editable, step-made}
use Rattle.rise.proofs.Rising.{Rising}
use Rattle.rise.proofs.Rises.{rise-makes}
use Rattle.descent.specs.declared.Part.TheVariants.{Bytes}
use Rattle.descent.specs.Descent.{risen_after, edited_at}
use Rattle.descent.proofs.Around.{inner-left, inner-right, outer-left, outer-right, all-text, each-filled}

-- a sound tree of height h at slot s, each slot used once or free, with a free slot for each level
pub record Roomy (m : List ℕ) (n h s least : ℕ) : Type 0 where
  pub few : n < 4294967296
  pub slotted : Slotted m n
  pub enough : least_root h ≤ least
  pub good : sound m least h s ≡ true
  pub once : (x : ℕ) → uses m h s x + free m n x ≤ 1
  pub room : h + 1 ≤ spare m n

-- a leaf's text with [i, e) given way to the piece
abbrev pub new_text : List ℕ → ℕ → ℕ → ℕ → List ℕ → List ℕ
new_text m leaf i e piece = replaced i e piece (text_of m leaf)

-- an edit of a leaf between two texts: a removal, or an insertion, that parts no CR from its LF at the leaf's ends
pub record Fitting (m : List ℕ) (leaf i e : ℕ) (piece before after : List ℕ) : Type 0 where
  pub order : i ≤ e
  pub start : is_boundary (text_of m leaf) i ≡ true
  pub end : is_boundary (text_of m leaf) e ≡ true
  pub piece-valid : valid_utf8 piece ≡ true
  pub piece-short : length piece ≤ 256
  pub one_way : (piece ≡ []) ⊎ (i ≡ e)
  pub seam-before : Whole before (new_text m leaf i e piece ++ after)
  pub seam-after : Whole (new_text m leaf i e piece) after
  pub short : length (before ++ (new_text m leaf i e piece ++ after)) < 4294967296

-- what the edit makes of the tree, with the text t; a tree that is no leaf has bytes left
pub record Descends (m : List ℕ) (n h s : ℕ) (by : Measure) (at i e : ℕ) (piece t : List ℕ) : Type 0 where
  pub made : Made
  pub later : List ℕ
  pub is : edited_at m h s by at (Bytes i e) piece ≡ (value made, later)
  pub makes : MadeIs m later n (h + 1) (uses m h s) h s t made
  pub some : 0 < h → 1 ≤ length t

module _ (m : List ℕ) (n : ℕ) (by : Measure) (leaf i e : ℕ) (piece : List ℕ) where
  abbrev new : List ℕ
  new = new_text m leaf i e piece

  -- ── the leaf ──

  bottom : (s least at : ℕ) (before after : List ℕ) → Roomy m n 0 s least → leaf ≡ s → before ≡ [] → after ≡ [] → Fitting m leaf i e piece before after
      → Descends m n 0 s by at i e piece (before ++ (new ++ after))
  unfolding edited_at
  bottom s least at before after r q b a f =
      let l = leaf-sound m least s r.good in
      let editable : Editable m n s i e piece
      = record {
        slotted = r.slotted;
        leaf = l.leaf;
        used = omega (arith, r.once s, leaf-uses m s s, hit-self s);
        valid = l.valid;
        order = f.order;
        start = subst (λ (x : ℕ). is_boundary (text_of m x) i ≡ true) q f.start;
        end = subst (λ (x : ℕ). is_boundary (text_of m x) e ≡ true) q f.end;
        piece-valid = f.piece-valid;
      } in
      let step = step-made m n s i e piece editable r.few f.piece-short (way f.one_way r.room) in
      let t : replaced i e piece (text_of m s) ≡ before ++ (new ++ after)
      = ap (λ (x : ℕ). replaced i e piece (text_of m x)) (sym q) ∙ sym (append-nil new)
      ∙ ap (λ (x : List ℕ). x ++ (new ++ [])) (sym b) ∙ ap (λ (x : List ℕ). before ++ (new ++ x)) (sym a) in
      record {
        made = step.made;
        later = step.later;
        is = ap (settled m) step.answer;
        makes = made_as m step.later n 1 _ (uses m 0 s) 0 s _ (before ++ (new ++ after)) step.made step.is (λ x. sym (leaf-uses m s x)) t;
        some = λ z. absurd (omega arith);
      }
    where
      way : (piece ≡ []) ⊎ (i ≡ e) → 0 + 1 ≤ spare m n → (piece ≡ []) ⊎ ((i ≡ e) × (1 ≤ spare m n))
      way (inl z) g = inl z
      way (inr z) g = inr (z, g)

  -- ── one list ──

  module _ (g s least at : ℕ) (before after : List ℕ) (r : Roomy m n (suc g) s least) (Down : ℕ → ℕ → List ℕ → List ℕ → Type 0)
      (w : Turn m g s by at leaf before after Down) (f : Fitting m leaf i e piece before after) where
    abbrev front : List ℕ
    front = bytes_all m g w.pre

    abbrev back : List ℕ
    back = bytes_all m g w.post

    abbrev text : List ℕ
    text = w.near ++ (new ++ w.far)

    good : ListSound m least g s
    good = list-sound m least g s r.good

    all-fine : every (fine m g) (w.pre ++ (w.kid ∷ w.post)) ≡ true
    all-fine = ap (every (fine m g)) (sym w.children) ∙ good.each

    rest-fine : every (fine m g) (w.kid ∷ w.post) ≡ true
    rest-fine = every-right (fine m g) w.pre (w.kid ∷ w.post) all-fine

    abbrev used_all : ℕ → ℕ
    used_all x = hit s x + (uses_all m g w.pre x + (uses m g w.kid.slot x + uses_all m g w.post x))

    used : (x : ℕ) → used_all x ≡ uses m (suc g) s x
    used x =
        omega (
          arith,
          list-uses m s g x,
          ap (λ (ks : List Kid). uses_all m g ks x) w.children,
          sum-append (λ k. uses m g k.slot x) w.pre (w.kid ∷ w.post),
          sum-cons (λ k. uses m g k.slot x) w.kid w.post,
        )

    seam-front : Whole (front ++ w.near) (new ++ (w.far ++ back))
    seam-front =
        ap (λ (t : List ℕ). cr_last t && lf_first (new ++ (w.far ++ back))) (sym w.before-is) ∙ ap (λ (t : List ℕ). cr_last before && lf_first (new ++ t)) (sym w.after_is) ∙ f.seam-before

    seam-back : Whole new (w.far ++ back)
    seam-back = ap (λ (t : List ℕ). cr_last new && lf_first t) (sym w.after_is) ∙ f.seam-after

    all-is : front ++ (text ++ back) ≡ before ++ (new ++ after)
    all-is =
        all-text front w.near (text_of m leaf) w.far back new (below m g w.kid) w.whole w.seam-before w.seam-after seam-front seam-back
        ∙ ap (λ (t : List ℕ). t ++ (new ++ (w.far ++ back))) (sym w.before-is) ∙ ap (λ (t : List ℕ). before ++ (new ++ t)) (sym w.after_is)

    -- the same one level down
    child-roomy : Roomy m n g w.kid.slot (least_at g)
    child-roomy =
        record {
          few = r.few;
          slotted = r.slotted;
          enough = least-list g;
          good = child-sound m g w.kid (every-head (fine m g) w.kid w.post rest-fine);
          once = λ x. omega (arith, r.once x, used x);
          room = omega (arith, r.room);
        }

    child-fitting : Fitting m leaf i e piece w.near w.far
    child-fitting =
        record {
          order = f.order;
          start = f.start;
          end = f.end;
          piece-valid = f.piece-valid;
          piece-short = f.piece-short;
          one_way = f.one_way;
          seam-before = inner-left front w.near (text_of m leaf) w.far back new (below m g w.kid) w.whole w.seam-before w.seam-after seam-front seam-back;
          seam-after = inner-right front w.near (text_of m leaf) w.far back new (below m g w.kid) w.whole w.seam-before w.seam-after seam-front seam-back;
          short = omega (arith, f.short, ap length all-is, length-append front (text ++ back), length-append text back);
        }

    size : 2 ≤ length w.pre + (1 + length w.post)
    unfolding least_root
    size = omega (arith, r.enough, good.size, children-length m s good.list, ap length w.children, length-append w.pre (w.kid ∷ w.post))

    rising : (d : Descends m n g w.kid.slot by (at - count_in by w.left) i e piece text) → Rising m d.later n g (g + 1) s w.pre w.kid w.post text d.made
    rising d =
        let seams : seamless (map (below m g) (w.pre ++ (w.kid ∷ w.post))) ≡ true = ap (λ (ks : List Kid). seamless (map (below m g) ks)) (sym w.children) ∙ good.seams in
        let q = seam-right (below m g) (fine m g) (filled m g) w.pre (w.kid ∷ w.post) seams in
        record {
          few = r.few;
          slotted = r.slotted;
          there = omega (arith, (list-says m s good.list).0, r.slotted.long);
          list = good.list;
          children = w.children;
          more = omega (arith, size);
          before = every-left (fine m g) w.pre (w.kid ∷ w.post) all-fine;
          behind = every-tail (fine m g) w.kid w.post rest-fine;
          seams-before = seam-left (below m g) (fine m g) (filled m g) w.pre (w.kid ∷ w.post) seams;
          seams-behind = seam-right (below m g) (fine m g) (filled m g) (w.kid ∷ []) w.post q;
          seam-left = outer-left front w.near (text_of m leaf) w.far back new (below m g w.kid) w.whole w.seam-before w.seam-after seam-front seam-back;
          seam-right = outer-right front w.near (text_of m leaf) w.far back new (below m g w.kid) w.whole w.seam-before w.seam-after seam-front seam-back;
          once = λ x. omega (arith, r.once x, used x);
          short = omega (arith, f.short, ap length all-is);
          edited = d.makes;
          room = omega (arith, r.room);
        }

    -- the step up, behind the edit of the child
    abbrev onward : ℕ × (ℕ × TextSum) → Act Made
    onward c = risen_after (edited_at m g c.1.0 by (at - count_in by c.1.1) (Bytes i e) piece) s c.0

    up : Descends m n g w.kid.slot by (at - count_in by w.left) i e piece text → Descends m n (suc g) s by at i e piece (before ++ (new ++ after))
    unfolding edited_at
    up d =
        let u = rise-makes m d.later n g (g + 1) s (length w.pre) w.pre w.kid w.post text d.made (rising d) refl in
        let spent : g + 1 + 1 ≡ suc g + 1 = omega arith in
        let makes : MadeIs m u.later n (suc g + 1) (uses m (suc g) s) (suc g) s (before ++ (new ++ after)) u.what
        = subst (λ (x : ℕ). MadeIs m u.later n x (uses m (suc g) s) (suc g) s (before ++ (new ++ after)) u.what) spent
        (made_as m u.later n (g + 1 + 1) used_all (uses m (suc g) s) (suc g) s (front ++ (text ++ back)) (before ++ (new ++ after)) u.what u.makes used all-is) in
        let some : 1 ≤ length (before ++ (new ++ after))
        = omega (
          arith,
          size,
          ap length all-is,
          length-append front (text ++ back),
          length-append text back,
          each-filled m g w.pre (every-left (fine m g) w.pre (w.kid ∷ w.post) all-fine),
          each-filled m g w.post (every-tail (fine m g) w.kid w.post rest-fine),
        ) in
        record {
          made = u.what;
          later = u.later;
          is = ap (λ (o : Outcome (ℕ × (ℕ × TextSum))). reading m o onward) w.is ∙ ap (λ (o : Act Made). risen_after o s (length w.pre)) d.is ∙ u.is;
          makes = makes;
          some = λ z. some;
        }

  -- ── the way down and up ──

  down : (h s least at : ℕ) (before after : List ℕ) → Roomy m n h s least → Way m h s by at leaf before after → Fitting m leaf i e piece before after
      → Descends m n h s by at i e piece (before ++ (new ++ after))
  unfolding Way
  down zero s least at before after r w f = bottom s least at before after r w.0 w.1.0 w.1.1 f
  down (suc g) s least at before after r w f =
      up g s least at before after r (λ c j b a. Way m g c by j leaf b a) w f
      (down g w.kid.slot (least_at g) (at - count_in by w.left) w.near w.far
      (child-roomy g s least at before after r (λ c j b a. Way m g c by j leaf b a) w f) w.down
      (child-fitting g s least at before after r (λ c j b a. Way m g c by j leaf b a) w f))

-- THEOREM: in a sound tree the edit of the leaf that a search finds is accepted, and the tree becomes what the edit says
pub descends : (m : List ℕ) (n h s least : ℕ) (by : Measure) (at i e : ℕ) (piece : List ℕ) → Roomy m n h s least → (r : Ends m h s by at)
    → Fitting m r.leaf i e piece r.before r.after → Descends m n h s by at i e piece (r.before ++ (new_text m r.leaf i e piece ++ r.after))
descends m n h s least by at i e piece roomy r f = down m n by r.leaf i e piece h s least at r.before r.after roomy r.way f

-- Which calls on a node are accepted, and what an accepted one gives: the text, the memory, and the nodes that are then read there.
use Rattle.std.specs.Prelude.{Ok, Err}
use mathlib.Core.Path.{◌≡◌, refl, sym, ap, subst, ◌∙◌}
use mathlib.Core.Bool.{Bool, true, false, not, ◌||◌}
use mathlib.Core.List.{List, [], ◌∷◌, ◌++◌, append-nil}
use Prim.Native.Nat.{ℕ, ◌+◌, ◌-◌, ◌≤◌, min}
use native.Mathlib.Omega.{arith}
use lib.ListN.{length, drop}
use lib.Seq.{length-take-le, take-length, drop-length}
use borrow.Author.Tests.{not-false, le-ltb, ltb-false}
use Rattle.plain.specs.Utf8.{valid_utf8}
use Rattle.plain.specs.Place.{is_boundary}
use Rattle.plain.specs.Edit.{replaced, put_in}
use Rattle.plain.specs.Outcome.{Outcome, Outcome.value, Outcome.refused, ruled, past}
use Rattle.plain.proofs.Logic.{or-none}
use Rattle.plain.proofs.Outcome.{rule-passed, one-passed, accepted, all-accepted, passed}
use Rattle.plain.proofs.Place.{boundary-0, boundary_end}
use Rattle.answer.specs.declared.Refusal.{Refusal}
use Rattle.leaf_bytes.specs.Leaf.{over}
use Rattle.leaf_bytes.specs.Split.{half_split}
use Rattle.leaf_bytes.specs.Raw.{cut_at, over_sides}
use Rattle.leaf_bytes.proofs.Opened.{never}
use Rattle.leaf_bytes.proofs.Rules.{fits-over}
use Rattle.node_text.specs.Texts.{off_chars, no_text, edited, inserted_split}
use Rattle.text_info.specs.declared.TextInfo.{TextInfo}
use Rattle.node_text.proofs.Rules.{Meets, meets_at, both-texts}
use Rattle.node_text.proofs.Texts.{Edited, edited-text, edited-accepted, InsertedSplit, inserted-split-texts}
use Rattle.pool.specs.Slot.{slot_start, slot_of, len_of, region_of}
use Rattle.pool.specs.declared.Kid.{Kid}
use Rattle.pool.specs.Calls.{outside, Wrote}
use Rattle.pool.proofs.Slots.{region-length}
use Rattle.node_children.specs.declared.NodeChildren.{NodeChildren}
use Rattle.node_children.specs.Kids.{kids, list_of}
use Rattle.node_children.specs.Calls.{too_long}
use Rattle.nodes.specs.Node.{is_leaf, is_list, text_of, children_of, counts_of, lost, ill, too_wide, narrowed, total_of, leaf_put, list_put, Fitting}
use Rattle.nodes.specs.Calls.{loaded, stored, list_counted, counted, leaf_edited, leaf_halved, LeafWrote, LeavesWrote}
use Rattle.nodes.proofs.Heads.{inside, not-outside, leaf-says, not_so}
use Rattle.nodes.proofs.Copied.{edit-is, edit-none, halve-is, halve-same, halve-outside, halve-none}
use Rattle.nodes.proofs.Put.{leaf-size, leaf-put, leaf-text, leaf-others, list_put_lem, list-children, same}
use Rattle.nodes.proofs.Rules.{few-counted, loaded-is}

-- ── lists and counts ──

module _ (m : List ℕ) (s : ℕ) where
  -- THEOREM: what is loaded are the children of a list (and where there is one, `loaded-is` of `Rules`)
  pub loaded-only : (c : NodeChildren) → loaded m s ≡ value c → (is_list m s ≡ true) × (c ≡ list_of (children_of m s))
  unfolding loaded
  loaded-only c e =
      let a = accepted 2 (not (is_list m s)) [] (list_of (children_of m s)) c e in
      (not-false _ a.0, sym (all-accepted (list_of (children_of m s)) c a.1))

  -- THEOREM: a node is counted where it is neither lost nor ill, and only there
  pub counted_is : lost m s ≡ false → ill m s ≡ false → counted m s ≡ value (counts_of m s)
  unfolding counted
  counted_is e f = rule-passed 2 (lost m s) ((5, ill m s) ∷ []) (counts_of m s) e ∙ one-passed 5 (ill m s) (counts_of m s) f

  pub counted-only : (i : TextInfo) → counted m s ≡ value i → (lost m s ≡ false) × (ill m s ≡ false) × (i ≡ counts_of m s)
  unfolding counted
  counted-only i e =
      let a = accepted 2 (lost m s) ((5, ill m s) ∷ []) (counts_of m s) i e in
      let b = accepted 5 (ill m s) [] (counts_of m s) i a.1 in
      (a.0, b.0, sym (all-accepted (counts_of m s) i b.1))

  -- a leaf's text has the length that its head says
  pub text-length : is_leaf m s ≡ true → length (text_of m s) ≡ len_of m s
  text-length e = let h = leaf-says m s e in length-take-le (len_of m s) (region_of m s) (omega (arith, region-length m s h.0))

-- THEOREM: a list is counted where it has at most 16 children and counts that fit, and only there
module _ (c : NodeChildren) where
  pub list-counted-is : c.len ≤ 16 → too_wide (total_of (kids c)) ≡ false → list_counted c ≡ value (narrowed (total_of (kids c)))
  list-counted-is h e = few-counted c h ∙ one-passed 2 (too_wide (total_of (kids c))) (narrowed (total_of (kids c))) e

  pub list-counted-only : (i : TextInfo) → list_counted c ≡ value i → (c.len ≤ 16) × (too_wide (total_of (kids c)) ≡ false) × (i ≡ narrowed (total_of (kids c)))
  unfolding list_counted
  list-counted-only i e =
      let w = passed ((2, too_wide (total_of (kids c))) ∷ too_long c.len ∷ []) (narrowed (total_of (kids c))) i e in
      (ltb-false 16 c.len w.0.1.0, w.0.0, w.1)

-- ── a list stored ──

module _ (m : List ℕ) (s : ℕ) (c : NodeChildren) where
  -- THEOREM: an accepted call wrote the list (and where it fits, `stored_is` of `Rules`)
  pub store-accepted : (after : List ℕ) → Wrote (stored m s c) m (Ok tt) after → (slot_start s + 640 ≤ length m) × (c.len ≤ 16) × (after ≡ list_put m s c)
  unfolding stored
  store-accepted after w =
      let v = list_put m s c in
      let a = accepted 2 (outside m s) (too_long c.len ∷ []) v after (go (stored m s c) w) in
      let b = accepted 11 (past c.len 16) [] v after a.1 in
      (inside m s a.0, ltb-false 16 c.len b.0, sym (all-accepted v after b.1))
    where
      go : (o : Outcome (List ℕ)) → Wrote o m (Ok tt) after → o ≡ value after
      go (value l) w = ap (λ (x : List ℕ). value x) (sym w.memory)
      go (refused n) w = absurd (never n tt (sym w.answered))

  -- THEOREM: what was stored is loaded
  pub stored_loaded : (after : List ℕ) → Wrote (stored m s c) m (Ok tt) after → Fitting c.arr → loaded after s ≡ value (list_of (kids c))
  stored_loaded after w f =
      let h = store-accepted after w in
      let l = list_put m s c in
      ap (λ (x : List ℕ). loaded x s) h.2
      ∙ loaded-is l s (list_put_lem m s c h.0 h.1 f.sixteen)
      ∙ ap (λ (ks : List Kid). value (list_of ks)) (list-children m s c h.0 h.1 f.sixteen f)

-- ── an edited leaf ──

pub record EditedLeaf (m : List ℕ) (s i e : ℕ) (piece : List ℕ) (n : ℕ) (after : List ℕ) : Type 0 where
  pub was-leaf : is_leaf m s ≡ true
  pub edit : Edited (region_of m s) (len_of m s) i e piece (replaced i e piece (text_of m s))
  pub size : n ≡ length (replaced i e piece (text_of m s))
  pub memory : after ≡ leaf_put m s (replaced i e piece (text_of m s))
  pub leaf : is_leaf after s ≡ true
  pub text : text_of after s ≡ replaced i e piece (text_of m s)
  pub others : (u : ℕ) → (u ≡ s → ⊥) → slot_of after u ≡ slot_of m u
  pub long : length after ≡ length m

module _ (m : List ℕ) (s i e : ℕ) (piece : List ℕ) where
  edited-leaf : (t : List ℕ) → leaf_edited m s i e piece ≡ value t → (is_leaf m s ≡ true) × (edited (region_of m s) (len_of m s) i e piece ≡ value t)
  edited-leaf t h = go (is_leaf m s) refl
    where
      go : (b : Bool) → is_leaf m s ≡ b → (is_leaf m s ≡ true) × (edited (region_of m s) (len_of m s) i e piece ≡ value t)
      go true z = (z, sym (edit-is m s i e piece (len_of m s) z refl) ∙ h)
      go false z = absurd (never 2 t (sym (edit-none m s i e piece z) ∙ h))

  -- THEOREM: an accepted edit leaves the edited text, and nothing else changes
  pub edit-accepted : (n : ℕ) (after : List ℕ) → LeafWrote (leaf_edited m s i e piece) m s (Ok n) after → EditedLeaf m s i e piece n after
  edit-accepted n after w = go (leaf_edited m s i e piece) refl w
    where
      go : (o : Outcome (List ℕ)) → leaf_edited m s i e piece ≡ o → LeafWrote o m s (Ok n) after → EditedLeaf m s i e piece n after
      go (refused k) z w = absurd (never k n (sym w.answered))
      go (value t) z w =
          let g = edited-leaf t z in
          let x = edited-text (region_of m s) (len_of m s) i e piece t g.1 in
          let new = replaced i e piece (text_of m s) in
          let h = (leaf-says m s g.0).0 in
          let small : length new ≤ 512 = subst (λ (l : List ℕ). length l ≤ 512) x.text x.small in
          let p = w.answered in
          let size : n ≡ length t = cc in
          let mem : after ≡ leaf_put m s new = w.memory ∙ ap (leaf_put m s) x.text in
          record {
            was-leaf = g.0;
            edit = subst (λ (l : List ℕ). Edited (region_of m s) (len_of m s) i e piece l) x.text x;
            size = size ∙ ap length x.text;
            memory = mem;
            leaf = ap (λ (l : List ℕ). is_leaf l s) mem ∙ leaf-put m s new h small;
            text = ap (λ (l : List ℕ). text_of l s) mem ∙ leaf-text m s new h small;
            others = λ u d. ap (λ (l : List ℕ). slot_of l u) mem ∙ leaf-others m s new h small u d;
            long = ap length mem ∙ leaf-size m s new h small;
          }

-- THEOREM: a refused edit keeps the memory
pub edit-kept : (o : Outcome (List ℕ)) (m : List ℕ) (s : ℕ) (q : Refusal) (after : List ℕ) → LeafWrote o m s (Err q) after → after ≡ m
edit-kept (value t) m s q after w = absurd (never _ (length t) w.answered)
edit-kept (refused n) m s q after w = w.memory

-- ── a leaf in two ──

pub record HalvedLeaf (m : List ℕ) (s i : ℕ) (piece : List ℕ) (right l r : ℕ) (after : List ℕ) : Type 0 where
  pub was-leaf : is_leaf m s ≡ true
  pub there : slot_start right + 640 ≤ length m
  pub apart : s ≡ right → ⊥
  pub text : List ℕ
  pub other : List ℕ
  pub split : InsertedSplit (region_of m s) (len_of m s) i piece (region_of m right) text other
  pub size : l ≡ length text
  pub other-size : r ≡ length other
  pub memory : after ≡ leaf_put (leaf_put m s text) right other
  pub leaf : is_leaf after s ≡ true
  pub leaf-text : text_of after s ≡ text
  pub other-leaf : is_leaf after right ≡ true
  pub other_text : text_of after right ≡ other
  pub others : (u : ℕ) → (u ≡ s → ⊥) → (u ≡ right → ⊥) → slot_of after u ≡ slot_of m u
  pub long : length after ≡ length m

module _ (m : List ℕ) (s i : ℕ) (piece : List ℕ) (right : ℕ) where
  halved-leaf : (t : List ℕ × List ℕ) → leaf_halved m s i piece right ≡ value t
      → (is_leaf m s ≡ true) × (outside m right ≡ false) × (s ≡ right → ⊥) × (inserted_split (region_of m s) (len_of m s) i piece (region_of m right) ≡ value t)
  halved-leaf t h =
      let f : leaf_halved m s i piece right ≡ refused 2 → ⊥ = λ z. never 2 t (sym z ∙ h) in
      let d : s ≡ right → ⊥ = λ z. f (halve-same m s i piece right z) in
      let o : outside m right ≡ false = not_so (outside m right) (λ z. f (halve-outside m s i piece right z)) in
      go (is_leaf m s) refl f o d
    where
      go : (b : Bool) → is_leaf m s ≡ b → (leaf_halved m s i piece right ≡ refused 2 → ⊥) → outside m right ≡ false → (s ≡ right → ⊥)
          → (is_leaf m s ≡ true) × (outside m right ≡ false) × (s ≡ right → ⊥) × (inserted_split (region_of m s) (len_of m s) i piece (region_of m right) ≡ value t)
      go true z f o d = (z, o, d, sym (halve-is m s i piece right (len_of m s) z refl o d) ∙ h)
      go false z f o d = absurd (f (halve-none m s i piece right z))

  -- THEOREM: an accepted insertion with a split leaves two leaves, and nothing else changes
  pub halve-accepted : (l r : ℕ) (after : List ℕ) → LeavesWrote (leaf_halved m s i piece right) m s right (Ok (l, r)) after → HalvedLeaf m s i piece right l r after
  halve-accepted l r after w = go (leaf_halved m s i piece right) refl w
    where
      go : (o : Outcome (List ℕ × List ℕ)) → leaf_halved m s i piece right ≡ o → LeavesWrote o m s right (Ok (l, r)) after → HalvedLeaf m s i piece right l r after
      go (refused k) z w = absurd (never k (l, r) (sym w.answered))
      go (value t) z w =
          let g = halved-leaf t z in
          let x = inserted-split-texts (region_of m s) (len_of m s) i piece (region_of m right) t.0 t.1 g.3 in
          let h = (leaf-says m s g.0).0 in
          let there = inside m right g.1 in
          let first = leaf_put m s t.0 in
          let a = x.fit.left-small in
          let b = x.fit.right-small in
          let k : slot_start right + 640 ≤ length first = omega (arith, leaf-size m s t.0 h a) in
          let mem = w.memory in
          let p = w.answered in
          let q : ◌≡◌ {A = ℕ × ℕ} (l, r) (length t.0, length t.1) = cc in
          let long : length after ≡ length first = ap length mem ∙ leaf-size first right t.1 k b in
          let stays : slot_of after s ≡ slot_of first s = ap (λ (y : List ℕ). slot_of y s) mem ∙ leaf-others first right t.1 k b s g.2 in
          let both = same after first s stays long in
          record {
            was-leaf = g.0;
            there = there;
            apart = g.2;
            text = t.0;
            other = t.1;
            split = x;
            size = ap (λ (y : ℕ × ℕ). y.0) q;
            other-size = ap (λ (y : ℕ × ℕ). y.1) q;
            memory = mem;
            leaf = both.leaf ∙ leaf-put m s t.0 h a;
            leaf-text = both.text ∙ leaf-text m s t.0 h a;
            other-leaf = ap (λ (y : List ℕ). is_leaf y right) mem ∙ leaf-put first right t.1 k b;
            other_text = ap (λ (y : List ℕ). text_of y right) mem ∙ leaf-text first right t.1 k b;
            others = λ u d e. ap (λ (y : List ℕ). slot_of y u) mem ∙ leaf-others first right t.1 k b u e ∙ leaf-others m s t.0 h a u d;
            long = long ∙ leaf-size m s t.0 h a;
          }

-- THEOREM: a refused one keeps the memory
pub halve-kept : (o : Outcome (List ℕ × List ℕ)) (m : List ℕ) (s right : ℕ) (q : Refusal) (after : List ℕ) → LeavesWrote o m s right (Err q) after → after ≡ m
halve-kept (value t) m s right q after w = absurd (never _ (length t.0, length t.1) w.answered)
halve-kept (refused n) m s right q after w = w.memory

-- ── which edits are accepted ──

module _ (m : List ℕ) (s : ℕ) (leaf : is_leaf m s ≡ true) (valid : valid_utf8 (text_of m s) ≡ true) where
  abbrev text : List ℕ
  text = text_of m s

  room : len_of m s ≤ length (region_of m s)
  room = let h = leaf-says m s leaf in omega (arith, region-length m s h.0)

  at-end : (piece : List ℕ) → valid_utf8 piece ≡ true → Meets (region_of m s) (len_of m s) (length text) (length text) piece
  at-end piece w = meets_at (region_of m s) (len_of m s) (length text) piece (leaf-says m s leaf).2 room (boundary_end text) valid w

  end_is : (piece : List ℕ) → put_in (length text) piece text ≡ text ++ piece
  end_is piece =
      ap (λ (l : List ℕ). l ++ (piece ++ drop (length text) text)) (take-length text)
      ∙ ap (λ (l : List ℕ). text ++ (piece ++ l)) (drop-length text)
      ∙ ap (λ (l : List ℕ). text ++ l) (append-nil piece)

  -- THEOREM: a piece is pushed where it fits
  pub push-accepted : (piece : List ℕ) → valid_utf8 piece ≡ true → length text + length piece ≤ 512 → leaf_edited m s (length text) (length text) piece ≡ value (text ++ piece)
  push-accepted piece w small =
      let h = (leaf-says m s leaf).0 in
      let z = text-length m s leaf in
      edit-is m s (length text) (length text) piece (len_of m s) leaf refl
      ∙ edited-accepted (region_of m s) (len_of m s) (length text) (length text) piece (at-end piece w) (omega arith) (omega (arith, region-length m s h))
      ∙ ap (λ (l : List ℕ). value l) (end_is piece)

  -- THEOREM: the front is cut off at a char boundary
  pub cut-accepted : (k : ℕ) → is_boundary text k ≡ true → leaf_edited m s 0 k [] ≡ value (drop k text)
  unfolding valid_utf8
  cut-accepted k b =
      let f = leaf-says m s leaf in
      let call : Meets (region_of m s) (len_of m s) 0 k [] = record { small = f.2; room = room; order = omega arith; start = boundary-0 text 0 refl; end = b; leaf-valid = valid; piece-valid = refl } in
      edit-is m s 0 k [] (len_of m s) leaf refl
      ∙ edited-accepted (region_of m s) (len_of m s) 0 k [] call (omega (arith, f.2)) (omega (arith, room))

  -- THEOREM: a piece pushed with a split is refused by 11 where a side is too long, and else gives the two sides
  pub push-halved : (piece : List ℕ) (right : ℕ) → valid_utf8 piece ≡ true → slot_start right + 640 ≤ length m → (s ≡ right → ⊥)
      → leaf_halved m s (length text) piece right
      ≡ ruled ((11, past (half_split (text ++ piece)) 512 || past (length (text ++ piece) - half_split (text ++ piece)) 512) ∷ []) (cut_at (text ++ piece) (half_split (text ++ piece)))
  unfolding inserted_split
  push-halved piece right w there apart =
      let h = leaf-says m s leaf in
      let call = at-end piece w in
      let region = region_of m s in
      let n = length text in
      let j = put_in n piece text in
      let v = cut_at j (half_split j) in
      let long = over_sides region (region_of m right) j (half_split j) in
      halve-is m s n piece right (len_of m s) leaf refl (not-outside m right there) apart
      ∙ rule-passed 3 (off_chars text n n).1 (no_text text piece ∷ (11, over region (len_of m s) || long) ∷ []) v (places n call.start)
      ∙ rule-passed 5 (no_text text piece).1 ((11, over region (len_of m s) || long) ∷ []) v (both-texts text piece valid w)
      ∙ ap (λ (b : Bool). ruled ((11, b || long) ∷ []) v) (fits-over region (len_of m s) h.2 room)
      ∙ ap (λ (k : ℕ). ruled ((11, ltb' k (half_split j) || over (region_of m right) (length j - half_split j)) ∷ []) v) (region-length m s h.0)
      ∙ ap (λ (k : ℕ). ruled ((11, past (half_split j) 512 || ltb' k (length j - half_split j)) ∷ []) v) (region-length m right there)
      ∙ ap (λ (l : List ℕ). ruled ((11, past (half_split l) 512 || past (length l - half_split l) 512) ∷ []) (cut_at l (half_split l))) (end_is piece)
    where
      places : (n : ℕ) → is_boundary text n ≡ true → (off_chars text n n).1 ≡ false
      places n b = or-none _ _ (le-ltb n n (omega arith)) (or-none _ _ (ap not b) (ap not b))

      ltb' : ℕ → ℕ → Bool
      ltb' k i = past i (min 512 k)

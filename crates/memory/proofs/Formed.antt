-- What well-formed memory gives, clause by clause, and back; and what a call of the note comes to by it.
use mathlib.Core.Path.{◌≡◌, refl, sym, ap, subst}
use mathlib.Core.Bool.{Bool, true, false, ◌&&◌, ◌||◌, cond}
use mathlib.Core.List.{List}
use mathlib.Core.Logic.{inl, inr, ◌⊎◌}
use Prim.Native.Nat.{ℕ, ◌+◌, ◌≤◌, ◌<◌}
use lib.Dec.{eqb, leb}
use lib.ListN.{length}
use borrow.Author.Tests.{leb-true, le-leb, eqb-true, eq-eqb}
use Rattle.plain.specs.Utf8.{valid_utf8, decode}
use Rattle.plain.specs.Outcome.{Outcome, Outcome.value, Outcome.refused}
use Rattle.plain.proofs.Logic.{and_left, and_right, or_left, or_right}
use Rattle.plain.proofs.Outcome.{clash}
use Rattle.plain_note.specs.Note.{Note, need, limit}
use Rattle.tree.specs.Tree.{sound, least_root, told_right}
use Rattle.tree.proofs.Lists.{both}
use Rattle.tree.proofs.Sound.{valid-below}
use Rattle.note_head.specs.Head.{n_of, root_of, height_of, free_of, live_at, place_at, own_of}
use Rattle.note_head.proofs.Own.{own-n, own-length}
use Rattle.memory.specs.Formed.{chained, note_bytes, in_tree, in_free, tree_right, slots_right, size_right, marks_right, need_met, well_formed, note_of, of_note}
use Rattle.memory.specs.Checks.{mark_right}
use Rattle.memory.proofs.Below.{below_at, below_all}

-- ── the note's own part ──

-- a mark: free, or live at a place of the note
abbrev pub MarkRight : List ℕ → ℕ → Type 0
MarkRight m k = (live_at m k ≡ 0) ⊎ ((live_at m k ≡ 1) × (place_at m k ≤ length (decode (note_bytes m))))

-- of n slots
pub record OwnFormed (m : List ℕ) (n : ℕ) : Type 0 where
  pub slots : n_of m ≡ n
  pub good : sound m (least_root (height_of m)) (height_of m) (root_of m).slot ≡ true
  pub told : told_right m (height_of m) (root_of m) ≡ true
  pub chain : chained m n n (free_of m) ≡ true
  pub each : (x : ℕ) → x < n → in_tree m x + in_free m x ≡ 1
  pub size : length (note_bytes m) ≤ limit n
  pub marks : (k : ℕ) → k < 256 → MarkRight m k

-- the note's bytes are a text
pub own-valid : (m : List ℕ) (n : ℕ) → OwnFormed m n → valid_utf8 (note_bytes m) ≡ true
own-valid m n f = valid-below m (least_root (height_of m)) (height_of m) (root_of m).slot f.good

mark-says : (m : List ℕ) (chars k : ℕ) → mark_right m chars k ≡ true → (live_at m k ≡ 0) ⊎ ((live_at m k ≡ 1) × (place_at m k ≤ chars))
mark-says m chars k e = go (eqb (live_at m k) 0) refl e
  where
    go : (t : Bool) → eqb (live_at m k) 0 ≡ t → (t || (eqb (live_at m k) 1 && leb (place_at m k) chars)) ≡ true → (live_at m k ≡ 0) ⊎ ((live_at m k ≡ 1) × (place_at m k ≤ chars))
    go true q h = inl (eqb-true (live_at m k) 0 q)
    go false q h = inr (eqb-true (live_at m k) 1 (and_left _ _ h), leb-true (place_at m k) chars (and_right (eqb (live_at m k) 1) _ h))

mark-is : (m : List ℕ) (chars k : ℕ) → (live_at m k ≡ 0) ⊎ ((live_at m k ≡ 1) × (place_at m k ≤ chars)) → mark_right m chars k ≡ true
mark-is m chars k (inl e) = or_left _ _ (eq-eqb (live_at m k) 0 e)
mark-is m chars k (inr p) = or_right (eqb (live_at m k) 0) _ (both _ _ (eq-eqb (live_at m k) 1 p.0) (le-leb (place_at m k) chars p.1))

module _ (m : List ℕ) where
  abbrev Chars : ℕ
  Chars = length (decode (note_bytes m))

  own-formed : tree_right m ≡ true → slots_right m ≡ true → size_right m ≡ true → marks_right m ≡ true → OwnFormed m (n_of m)
  unfolding tree_right slots_right size_right marks_right
  own-formed t s z k = record {
    slots = refl;
    good = and_left (sound m (least_root (height_of m)) (height_of m) (root_of m).slot) (told_right m (height_of m) (root_of m)) t;
    told = and_right (sound m (least_root (height_of m)) (height_of m) (root_of m).slot) (told_right m (height_of m) (root_of m)) t;
    chain = and_left (chained m (n_of m) (n_of m) (free_of m)) _ s;
    each = λ x l. eqb-true (in_tree m x + in_free m x) 1 (below_at (λ x. eqb (in_tree m x + in_free m x) 1) (n_of m) x (and_right (chained m (n_of m) (n_of m) (free_of m)) _ s) l);
    size = leb-true (length (note_bytes m)) (limit (n_of m)) z;
    marks = λ i l. mark-says m Chars i (below_at (mark_right m Chars) 256 i k l);
  }

  module _ (f : OwnFormed m (n_of m)) where
    tree-right : tree_right m ≡ true
    unfolding tree_right
    tree-right = both _ _ f.good f.told

    slots-right : slots_right m ≡ true
    unfolding slots_right
    slots-right = both _ _ f.chain (below_all (λ x. eqb (in_tree m x + in_free m x) 1) (n_of m) (λ x l. eq-eqb (in_tree m x + in_free m x) 1 (f.each x l)))

    size-right : size_right m ≡ true
    unfolding size_right
    size-right = le-leb (length (note_bytes m)) (limit (n_of m)) f.size

    marks-right : marks_right m ≡ true
    unfolding marks_right
    marks-right = below_all (mark_right m Chars) 256 (λ k l. mark-is m Chars k (f.marks k l))

-- ── the lent memory ──

pub record Formed (m : List ℕ) : Type 0 where
  pub least : 17 ≤ n_of m
  pub most : n_of m ≤ 4096
  pub room : need (n_of m) ≤ length m
  pub own : OwnFormed (own_of m) (n_of m)

-- how long the note's own part then is
pub formed-length : (m : List ℕ) → Formed m → length (own_of m) ≡ need (n_of m)
formed-length m f = own-length m f.room

module _ (m : List ℕ) where
  abbrev Own : Bool
  Own = tree_right (own_of m) && (slots_right (own_of m) && (size_right (own_of m) && marks_right (own_of m)))

  -- THEOREM: memory is well formed exactly where every clause holds
  pub formed : well_formed m ≡ true → Formed m
  unfolding well_formed need_met
  formed e =
      let o = own_of m in
      let n = and_left (need_met m) Own e in
      let a = and_right (need_met m) Own e in
      let b = and_right (tree_right o) (slots_right o && (size_right o && marks_right o)) a in
      let d = and_right (slots_right o) (size_right o && marks_right o) b in
      let r = and_right (leb 17 (n_of m)) (leb (n_of m) 4096 && leb (need (n_of m)) (length m)) n in
      record {
        least = leb-true 17 (n_of m) (and_left (leb 17 (n_of m)) _ n);
        most = leb-true (n_of m) 4096 (and_left (leb (n_of m) 4096) _ r);
        room = leb-true (need (n_of m)) (length m) (and_right (leb (n_of m) 4096) _ r);
        own = subst (OwnFormed o) (own-n m) (own-formed o (and_left (tree_right o) _ a) (and_left (slots_right o) _ b) (and_left (size_right o) _ d) (and_right (size_right o) (marks_right o) d));
      }

  pub formed-well : Formed m → well_formed m ≡ true
  unfolding well_formed need_met
  formed-well f =
      let o = own_of m in
      let w : OwnFormed o (n_of o) = subst (OwnFormed o) (sym (own-n m)) f.own in
      both (need_met m) Own
      (both (leb 17 (n_of m)) _ (le-leb 17 (n_of m) f.least) (both (leb (n_of m) 4096) _ (le-leb (n_of m) 4096 f.most) (le-leb (need (n_of m)) (length m) f.room)))
      (both (tree_right o) _ (tree-right o w) (both (slots_right o) _ (slots-right o w) (both (size_right o) _ (size-right o w) (marks-right o w))))

-- ── a call of the note ──

module _ {A : Type 0} (m : List ℕ) (f : Note → Outcome A) where
  pub note-refused : well_formed m ≡ false → of_note m f ≡ refused 2
  unfolding of_note
  note-refused e = ap (λ (t : Bool). cond t (f (note_of m)) (refused 2)) e

  pub note-called : well_formed m ≡ true → of_note m f ≡ f (note_of m)
  unfolding of_note
  note-called e = ap (λ (t : Bool). cond t (f (note_of m)) (refused 2)) e

  -- THEOREM: a call that is accepted had a well-formed memory, and is accepted on its note.
  pub note-accepted : (a : A) → of_note m f ≡ value a → (well_formed m ≡ true) × (f (note_of m) ≡ value a)
  unfolding of_note
  note-accepted a e = go (well_formed m) refl e
    where
      go : (t : Bool) → well_formed m ≡ t → cond t (f (note_of m)) (refused 2) ≡ value a → (well_formed m ≡ true) × (f (note_of m) ≡ value a)
      go true w g = (w, g)
      go false w g = clash 2 a g

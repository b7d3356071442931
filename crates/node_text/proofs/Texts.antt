-- What an accepted call of a leaf leaves, and which calls are accepted. What is left is text: its chars are those of the leaf with the
-- piece put in, in one part or in two.
use mathlib.Core.Path.{◌≡◌, refl, ap, ◌∙◌, subst}
use mathlib.Core.Bool.{Bool, true, false, ◌||◌}
use mathlib.Core.List.{List, [], ◌∷◌, ◌++◌}
use Prim.Native.Nat.{ℕ, ◌+◌, ◌-◌, ◌≤◌, ◌<◌}
use native.Mathlib.Omega.{arith}
use lib.Dec.{eqb}
use lib.ListN.{length, take, drop, length-append, length-drop}
use lib.Seq.{length-take-le}
use borrow.Author.Tests.{ne_eqb}
use Rattle.plain.specs.Utf8.{valid_utf8, decode}
use Rattle.plain.specs.Place.{place_of_byte}
use Rattle.plain.specs.Edit.{replaced, put_in}
use Rattle.plain.specs.Outcome.{Outcome.value}
use Rattle.plain.proofs.Logic.{or-none, neither}
use Rattle.plain.proofs.Utf8.{valid-append}
use Rattle.plain.proofs.Place.{valid-split}
use Rattle.plain.proofs.Edit.{replaced-length}
use Rattle.plain.proofs.Outcome.{rule-passed, one-passed, accepted, all-accepted}
use Rattle.leaf_bytes.specs.Leaf.{leaf_of, over}
use Rattle.leaf_bytes.specs.Split.{half_split, seam_split}
use Rattle.leaf_bytes.specs.Raw.{cut_at, over_sides}
use Rattle.leaf_bytes.proofs.Rules.{over-fits, fits-over}
use Rattle.leaf_bytes.proofs.Split.{half_le, half-breaks, half-sizes, seam-le, seam-breaks}
use Rattle.node_text.specs.Texts.{no_text, edited, split_off, inserted_split, seam_fixed}
use Rattle.node_text.proofs.Rules.{texts, both-texts, Meets, meets, met}
use Rattle.node_text.proofs.Parts.{boundary-le, replaced-text, Joined, Parted, texts-joined, cut-joined, cut-parted}

-- the text of a leaf
abbrev pub chars_of : List ℕ → ℕ → List ℕ
chars_of region len = decode (leaf_of region len)

-- ── [s, e) of a leaf gives way to a piece ──

pub record Edited (region : List ℕ) (len s e : ℕ) (piece t : List ℕ) : Type 0 where
  pub call : Meets region len s e piece
  pub text : t ≡ replaced s e piece (leaf_of region len)
  pub valid : valid_utf8 t ≡ true
  pub chars : decode t ≡ replaced (place_of_byte (chars_of region len) s) (place_of_byte (chars_of region len) e) (decode piece) (chars_of region len)
  pub small : length t ≤ 512
  pub room : length t ≤ length region

module _ (region : List ℕ) (len s e : ℕ) (piece : List ℕ) where
  -- THEOREM: an accepted edit leaves text, and edits the chars at the places of the bytes
  pub edited-text : (t : List ℕ) → edited region len s e piece ≡ value t → Edited region len s e piece t
  unfolding edited
  edited-text t h =
      let leaf = leaf_of region len in
      let new = replaced s e piece leaf in
      let m = meets region len s e piece (over region (length new)) new t h in
      let c = m.0 in
      let size = over-fits region (length new) m.1 in
      let now = replaced-text leaf c.leaf-valid s e piece c.start c.end c.piece-valid in
      subst (λ (u : List ℕ). Edited region len s e piece u) m.2
      (record { call = c; text = refl; valid = now.0; chars = now.1; small = size.0; room = size.1 })

  -- THEOREM: it is accepted where what it leaves fits
  pub edited-accepted : Meets region len s e piece → s + length piece + (len - e) ≤ 512 → s + length piece + (len - e) ≤ length region
      → edited region len s e piece ≡ value (replaced s e piece (leaf_of region len))
  unfolding edited
  edited-accepted c small room =
      let leaf = leaf_of region len in
      let whole = length-take-le len region c.room in
      let new = replaced-length s e piece leaf c.order (boundary-le leaf e c.end) in
      met region len s e piece _ _ c (fits-over region _ (omega arith) (omega arith))

-- ── two sides ──

-- they fit their regions
pub record Fit (left right l r : List ℕ) : Type 0 where
  pub left-small : length l ≤ 512
  pub left-room : length l ≤ length left
  pub right-small : length r ≤ 512
  pub right-room : length r ≤ length right

module _ (left right t : List ℕ) (p : ℕ) where
  cut_fits : p ≤ length t → over_sides left right t p ≡ false → Fit left right (take p t) (drop p t)
  cut_fits h e =
      let o = neither (over left p) (over right (length t - p)) e in
      let l = over-fits left p o.0 in
      let r = over-fits right (length t - p) o.1 in
      let n = length-take-le p t h in
      let m = length-drop p t in
      record { left-small = omega arith; left-room = omega arith; right-small = omega arith; right-room = omega arith }

  fits_cut : p ≤ 512 → p ≤ length left → length t - p ≤ 512 → length t - p ≤ length right → over_sides left right t p ≡ false
  fits_cut h k m n = or-none _ _ (fits-over left p h k) (fits-over right (length t - p) m n)

-- ── a leaf parted at i ──

pub record SplitOff (region : List ℕ) (len i : ℕ) (right l r : List ℕ) : Type 0 where
  pub call : Meets region len i i []
  pub left_is : l ≡ take i (leaf_of region len)
  pub right_is : r ≡ drop i (leaf_of region len)
  pub joined : Joined (leaf_of region len) l r
  pub left-chars : decode l ≡ take (place_of_byte (chars_of region len) i) (chars_of region len)
  pub right-chars : decode r ≡ drop (place_of_byte (chars_of region len) i) (chars_of region len)
  pub fit : Fit region right l r

module _ (region : List ℕ) (len i : ℕ) (right : List ℕ) where
  -- THEOREM: an accepted parting leaves two texts
  pub split-off-texts : (l r : List ℕ) → split_off region len i right ≡ value (l, r) → SplitOff region len i right l r
  unfolding split_off
  split-off-texts l r h =
      let leaf = leaf_of region len in
      let m = meets region len i i [] (over_sides region right leaf i) (cut_at leaf i) (l, r) h in
      let c = m.0 in
      let b = boundary-le leaf i c.start in
      let s = valid-split leaf i c.leaf-valid b c.start in
      subst (λ (q : List ℕ × List ℕ). SplitOff region len i right q.0 q.1) m.2
      (record {
        call = c;
        left_is = refl;
        right_is = refl;
        joined = cut-joined leaf i c.leaf-valid c.start;
        left-chars = s.2;
        right-chars = s.3;
        fit = cut_fits region right leaf i b m.1;
      })

  -- THEOREM: it is accepted where the right side fits
  pub split-off-accepted : Meets region len i i [] → len - i ≤ length right → split_off region len i right ≡ value (cut_at (leaf_of region len) i)
  unfolding split_off
  split-off-accepted c room =
      let leaf = leaf_of region len in
      let small = c.small in
      let there = c.room in
      let b = boundary-le leaf i c.start in
      let whole = length-take-le len region there in
      met region len i i [] _ _ c (fits_cut region right leaf i (omega arith) (omega arith) (omega arith) (omega arith))

-- ── a piece put into a leaf at i, and the whole parted near its half ──

pub record InsertedSplit (region : List ℕ) (len i : ℕ) (piece right l r : List ℕ) : Type 0 where
  pub call : Meets region len i i piece
  pub parted : Parted (put_in i piece (leaf_of region len)) l r
  pub chars : decode (put_in i piece (leaf_of region len)) ≡ put_in (place_of_byte (chars_of region len) i) (decode piece) (chars_of region len)
  pub fit : Fit region right l r
  pub filled : 513 ≤ length (put_in i piece (leaf_of region len)) → length (put_in i piece (leaf_of region len)) ≤ 768
      → (128 ≤ length l) × (length l ≤ 512) × (128 ≤ length r) × (length r ≤ 512)

module _ (region : List ℕ) (len i : ℕ) (piece right : List ℕ) where
  -- THEOREM: an accepted insertion with a split leaves two texts that part no CR from its LF, and that together are the edited text
  pub inserted-split-texts : (l r : List ℕ) → inserted_split region len i piece right ≡ value (l, r) → InsertedSplit region len i piece right l r
  unfolding inserted_split
  inserted-split-texts l r h =
      let leaf = leaf_of region len in
      let j = put_in i piece leaf in
      let p = half_split j in
      let m = meets region len i i piece (over_sides region right j p) (cut_at j p) (l, r) h in
      let c = m.0 in
      let now = replaced-text leaf c.leaf-valid i i piece c.start c.end c.piece-valid in
      let n = length-take-le p j (half_le j) in
      let k = length-drop p j in
      subst (λ (q : List ℕ × List ℕ). InsertedSplit region len i piece right q.0 q.1) m.2
      (record {
        call = c;
        parted = cut-parted j p now.0 (half_le j) (half-breaks j now.0);
        chars = now.1;
        fit = cut_fits region right j p (half_le j) m.1;
        filled = λ a b. let s = half-sizes j now.0 a b in (omega arith, omega arith, omega arith, omega arith);
      })

  -- THEOREM: a leaf and a piece that have no room in one leaf, and no more than 768 bytes, have room in two
  pub inserted-split-accepted : Meets region len i i piece → 512 ≤ length region → 512 ≤ length right
      → 513 ≤ len + length piece → len + length piece ≤ 768
      → inserted_split region len i piece right ≡ value (cut_at (put_in i piece (leaf_of region len)) (half_split (put_in i piece (leaf_of region len))))
  unfolding inserted_split
  inserted-split-accepted c u v low high =
      let leaf = leaf_of region len in
      let j = put_in i piece leaf in
      let now = replaced-text leaf c.leaf-valid i i piece c.start c.end c.piece-valid in
      let b = boundary-le leaf i c.start in
      let whole = length-take-le len region c.room in
      let new = replaced-length i i piece leaf (omega arith) b in
      let s = half-sizes j now.0 (omega arith) (omega arith) in
      met region len i i piece _ _ c (fits_cut region right j (half_split j) (omega arith) (omega arith) (omega arith) (omega arith))

-- ── two leaves whose seam is moved to a break ──

pub record SeamFixed (left : List ℕ) (len : ℕ) (right : List ℕ) (rlen : ℕ) (l r : List ℕ) : Type 0 where
  pub before : Joined (leaf_of left len ++ leaf_of right rlen) (leaf_of left len) (leaf_of right rlen)
  pub parted : Parted (leaf_of left len ++ leaf_of right rlen) l r
  pub fit : Fit left right l r

module _ (left : List ℕ) (len : ℕ) (right : List ℕ) (rlen : ℕ) where
  abbrev left-leaf : List ℕ
  left-leaf = leaf_of left len

  abbrev right-leaf : List ℕ
  right-leaf = leaf_of right rlen

  abbrev long : Bool
  long = (over left len || over right rlen) || over_sides left right (left-leaf ++ right-leaf) (seam_split left-leaf right-leaf)

  -- THEOREM: two leaves with an accepted seam hold the same text as before, and no CR is parted from its LF
  pub seam-fixed-texts : (l r : List ℕ) → seam_fixed left len right rlen ≡ value (l, r) → SeamFixed left len right rlen l r
  unfolding seam_fixed
  seam-fixed-texts l r h =
      let a = left-leaf in
      let b = right-leaf in
      let p = seam_split a b in
      let q = cut_at (a ++ b) p in
      let some = accepted 12 (eqb (length a) 0 || eqb (length b) 0) (no_text a b ∷ (11, long) ∷ []) q (l, r) h in
      let text = accepted 5 (no_text a b).1 ((11, long) ∷ []) q (l, r) some.1 in
      let size = accepted 11 long [] q (l, r) text.1 in
      let v = texts a b text.0 in
      let o = neither (over left len || over right rlen) (over_sides left right (a ++ b) p) size.0 in
      let n : p ≤ length (a ++ b) = omega (arith, seam-le a b, length-append a b) in
      subst (λ (q : List ℕ × List ℕ). SeamFixed left len right rlen q.0 q.1) (all-accepted q (l, r) size.1)
      (record {
        before = texts-joined a b v.0 v.1;
        parted = cut-parted (a ++ b) p (valid-append a b v.0 v.1).0 n (seam-breaks a b);
        fit = cut_fits left right (a ++ b) p n o.1;
      })

  -- THEOREM: it is accepted where both sides fit, before and after
  pub seam-fixed-accepted : 0 < len → len ≤ 512 → len ≤ length left → 0 < rlen → rlen ≤ 512 → rlen ≤ length right
      → valid_utf8 (leaf_of left len) ≡ true → valid_utf8 (leaf_of right rlen) ≡ true
      → (p : ℕ) → seam_split (leaf_of left len) (leaf_of right rlen) ≡ p → p ≤ 512 → p ≤ length left → len + rlen - p ≤ 512 → len + rlen - p ≤ length right
      → seam_fixed left len right rlen ≡ value (cut_at (leaf_of left len ++ leaf_of right rlen) p)
  unfolding seam_fixed
  seam-fixed-accepted h0 h1 h2 k0 k1 k2 v w p e m1 m2 n1 n2 =
      let a = left-leaf in
      let b = right-leaf in
      let q = cut_at (a ++ b) (seam_split a b) in
      let whole = length-take-le len left h2 in
      let whole-too = length-take-le rlen right k2 in
      let both = length-append a b in
      rule-passed 12 (eqb (length a) 0 || eqb (length b) 0) (no_text a b ∷ (11, long) ∷ []) q
      (or-none _ _ (ne_eqb (length a) 0 (omega arith)) (ne_eqb (length b) 0 (omega arith)))
      ∙ rule-passed 5 (no_text a b).1 ((11, long) ∷ []) q (both-texts a b v w)
      ∙ one-passed 11 long q
      (or-none _ _ (or-none _ _ (fits-over left len h1 h2) (fits-over right rlen k1 k2))
      (fits_cut left right (a ++ b) (seam_split a b) (omega arith) (omega arith) (omega arith) (omega arith)))
      ∙ ap (λ (i : ℕ). value (cut_at (a ++ b) i)) e

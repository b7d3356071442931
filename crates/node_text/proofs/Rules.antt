-- The refusals of a leaf's calls: of an accepted call none applies, and a call of which none applies is accepted.
use mathlib.Core.Path.{◌≡◌, ap, ◌∙◌}
use mathlib.Core.Bool.{Bool, true, false, not, ◌||◌}
use mathlib.Core.List.{List, [], ◌∷◌}
use Prim.Native.Nat.{ℕ, ◌≤◌}
use native.Mathlib.Omega.{arith}
use lib.Dec.{ltb}
use lib.ListN.{length}
use borrow.Author.Tests.{ltb-false, le-ltb, not-false}
use Rattle.plain.specs.Utf8.{valid_utf8}
use Rattle.plain.specs.Place.{is_boundary}
use Rattle.plain.specs.Outcome.{Outcome.value, Rule, ruled}
use Rattle.plain.proofs.Logic.{or-none, neither}
use Rattle.plain.proofs.Outcome.{rule-passed, one-passed, accepted, all-accepted}
use Rattle.leaf_bytes.specs.Leaf.{leaf_of, over}
use Rattle.leaf_bytes.proofs.Rules.{over-fits, fits-over}
use Rattle.node_text.specs.Texts.{off_chars, no_text}

-- ── 5: two texts ──

module _ (a b : List ℕ) where
  pub texts : (no_text a b).1 ≡ false → (valid_utf8 a ≡ true) × (valid_utf8 b ≡ true)
  texts e = let v = neither (not (valid_utf8 a)) (not (valid_utf8 b)) e in (not-false _ v.0, not-false _ v.1)

  pub both-texts : valid_utf8 a ≡ true → valid_utf8 b ≡ true → (no_text a b).1 ≡ false
  both-texts v w = or-none _ _ (ap not v) (ap not w)

-- ── a call that edits one leaf ──

-- what it asks for, the size of what it leaves aside: a leaf that fits, a range between its chars, and text on both sides
pub record Meets (region : List ℕ) (len s e : ℕ) (piece : List ℕ) : Type 0 where
  pub small : len ≤ 512
  pub room : len ≤ length region
  pub order : s ≤ e
  pub start : is_boundary (leaf_of region len) s ≡ true
  pub end : is_boundary (leaf_of region len) e ≡ true
  pub leaf-valid : valid_utf8 (leaf_of region len) ≡ true
  pub piece-valid : valid_utf8 piece ≡ true

-- an insertion has one place
pub meets_at : (region : List ℕ) (len i : ℕ) (piece : List ℕ) → len ≤ 512 → len ≤ length region → is_boundary (leaf_of region len) i ≡ true
    → valid_utf8 (leaf_of region len) ≡ true → valid_utf8 piece ≡ true → Meets region len i i piece
meets_at region len i piece h k b v w = record { small = h; room = k; order = omega arith; start = b; end = b; leaf-valid = v; piece-valid = w }

-- its rules, where `long` says that what it leaves is too long
module _ {A : Type 0} (region : List ℕ) (len s e : ℕ) (piece : List ℕ) (long : Bool) (a : A) where
  abbrev leaf : List ℕ
  leaf = leaf_of region len

  abbrev rules : List Rule
  rules = off_chars leaf s e ∷ no_text leaf piece ∷ (11, over region len || long) ∷ []

  -- accepted, it meets them
  pub meets : (b : A) → ruled rules a ≡ value b → Meets region len s e piece × (long ≡ false) × (a ≡ b)
  meets b h =
      let place = accepted 3 (off_chars leaf s e).1 (no_text leaf piece ∷ (11, over region len || long) ∷ []) a b h in
      let text = accepted 5 (no_text leaf piece).1 ((11, over region len || long) ∷ []) a b place.1 in
      let size = accepted 11 (over region len || long) [] a b text.1 in
      let p = neither (ltb e s) (not (is_boundary leaf s) || not (is_boundary leaf e)) place.0 in
      let q = neither (not (is_boundary leaf s)) (not (is_boundary leaf e)) p.1 in
      let v = texts leaf piece text.0 in
      let o = neither (over region len) long size.0 in
      let f = over-fits region len o.0 in (
        record {
          small = f.0;
          room = f.1;
          order = ltb-false e s p.0;
          start = not-false _ q.0;
          end = not-false _ q.1;
          leaf-valid = v.0;
          piece-valid = v.1;
        },
        o.1,
        all-accepted a b size.1,
      )

  -- and a call that meets them is accepted
  pub met : Meets region len s e piece → long ≡ false → ruled rules a ≡ value a
  met m f =
      rule-passed 3 (off_chars leaf s e).1 (no_text leaf piece ∷ (11, over region len || long) ∷ []) a
      (or-none _ _ (le-ltb e s m.order) (or-none _ _ (ap not m.start) (ap not m.end)))
      ∙ rule-passed 5 (no_text leaf piece).1 ((11, over region len || long) ∷ []) a (both-texts leaf piece m.leaf-valid m.piece-valid)
      ∙ one-passed 11 (over region len || long) a (or-none _ _ (fits-over region len m.small m.room) f)

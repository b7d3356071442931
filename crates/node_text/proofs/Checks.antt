-- What `checked` and `checked_seam` settle: a refusal is the call's own, and once both rules are passed, what is left to ask is what the
-- layer below asks of any bytes.
use Rattle.std.specs.Prelude.{Ok, Err}
use mathlib.Core.Path.{◌≡◌, sym, ap, ◌∙◌}
use mathlib.Core.Bool.{true, false, not, ◌||◌}
use mathlib.Core.List.{List, [], ◌∷◌, ◌++◌}
use Prim.Native.Nat.{ℕ, ◌≤◌, ◌<◌}
use native.Mathlib.Omega.{arith}
use lib.Dec.{eqb}
use lib.ListN.{length, take, length-take}
use lib.Seq.{take_all}
use borrow.Author.Tests.{lt-ltb, le-ltb, eq-eqb, ne_eqb, not-false}
use Rattle.plain.specs.Utf8.{valid_utf8}
use Rattle.plain.specs.Place.{is_boundary}
use Rattle.plain.specs.Edit.{replaced, put_in}
use Rattle.plain.specs.Outcome.{Outcome.value, Outcome.refused, Rule, ruled, past}
use Rattle.plain.proofs.Logic.{cut, or_left, or_right, or-none, neither}
use Rattle.plain.proofs.Outcome.{rule-applies, rule-passed, one-applies, one-passed, accepted, more-refused, more-passed}
use Rattle.answer.specs.Answers.{refusal_number, Answer, outcome}
use Rattle.answer.specs.declared.Refusal.{Refusal}
use Rattle.leaf_bytes.specs.Leaf.{leaf_of, over}
use Rattle.leaf_bytes.specs.Split.{half_split, seam_split}
use Rattle.leaf_bytes.specs.Raw.{cut_at, over_sides, no_side, replacing, parting, halving, mending}
use Rattle.leaf_bytes.proofs.Rules.{replacing-is, parting-is, halving-is, mending-is}
use Rattle.node_text.specs.Texts.{off_chars, no_text, edited, split_off, inserted_split, seam_fixed}
use Rattle.node_text.proofs.Parts.{boundary-le}

-- ── the tests of `checked` ──

module _ {A : Type 0} (leaf : List ℕ) (s e : ℕ) (piece : List ℕ) (a : A) where
  abbrev rules : List Rule
  rules = off_chars leaf s e ∷ no_text leaf piece ∷ []

  pub range-falls : e < s → refused 3 ≡ ruled rules a
  range-falls h = sym (rule-applies 3 (off_chars leaf s e).1 (no_text leaf piece ∷ []) a (or_left _ _ (lt-ltb e s h)))

  pub start-off : is_boundary leaf s ≡ false → refused 3 ≡ ruled rules a
  start-off h = sym (rule-applies 3 (off_chars leaf s e).1 (no_text leaf piece ∷ []) a (or_right (past s e) _ (or_left _ _ (ap not h))))

  pub end-off : is_boundary leaf e ≡ false → refused 3 ≡ ruled rules a
  end-off h = sym (rule-applies 3 (off_chars leaf s e).1 (no_text leaf piece ∷ []) a (or_right (past s e) _ (or_right (not (is_boundary leaf s)) _ (ap not h))))

  module _ (o : s ≤ e) (b : is_boundary leaf s ≡ true) (c : is_boundary leaf e ≡ true) where
    on-chars : ruled rules a ≡ ruled (no_text leaf piece ∷ []) a
    on-chars = rule-passed 3 (off_chars leaf s e).1 (no_text leaf piece ∷ []) a (or-none _ _ (le-ltb e s o) (or-none _ _ (ap not b) (ap not c)))

    pub leaf-bad : valid_utf8 leaf ≡ false → refused 5 ≡ ruled rules a
    leaf-bad h = sym (on-chars ∙ one-applies 5 (no_text leaf piece).1 a (or_left _ _ (ap not h)))

    pub piece-bad : valid_utf8 piece ≡ false → refused 5 ≡ ruled rules a
    piece-bad h = sym (on-chars ∙ one-applies 5 (no_text leaf piece).1 a (or_right (not (valid_utf8 leaf)) _ (ap not h)))

    pub all-good : valid_utf8 leaf ≡ true → valid_utf8 piece ≡ true → value a ≡ ruled rules a
    all-good v w = sym (on-chars ∙ one-passed 5 (no_text leaf piece).1 a (or-none _ _ (ap not v) (ap not w)))

-- a leaf held in full: its first n bytes, where n is as many as it has
pub held-part : (r : List ℕ) (len n : ℕ) → n ≡ length (leaf_of r len) → take n r ≡ leaf_of r len
held-part r len n e =
    cut len (length r)
    (λ k. let z : n ≡ len = omega (arith, length-take len r) in ap (λ (m : ℕ). take m r) z)
    (λ k. take_all n r (omega (arith, length-take len r)) ∙ sym (take_all len r k))

-- ── an answer of `checked`, taken apart ──

module _ (region : List ℕ) (len s e : ℕ) (piece : List ℕ) (n : ℕ) (h : n ≡ length (leaf_of region len)) (r : Answer ℕ)
    (p : outcome r ≡ ruled (off_chars (take n region) s e ∷ no_text (take n region) piece ∷ []) (length (take n region))) where
  abbrev leaf : List ℕ
  leaf = leaf_of region len

  says : outcome r ≡ ruled (off_chars leaf s e ∷ no_text leaf piece ∷ []) (length leaf)
  says = p ∙ ap (λ (l : List ℕ). ruled (off_chars l s e ∷ no_text l piece ∷ []) (length l)) (held-part region len n h)

  pub checked_refused : {A : Type 0} (qs : List Rule) (a : A) (q : Refusal) → r ≡ Err q
      → ruled (off_chars leaf s e ∷ no_text leaf piece ∷ qs) a ≡ refused (refusal_number q)
  checked_refused qs a q f = more-refused (off_chars leaf s e ∷ no_text leaf piece ∷ []) qs (length leaf) a (refusal_number q) (sym says ∙ ap outcome f)

  module _ (m : ℕ) (f : r ≡ Ok m) where
    passed : ruled (off_chars leaf s e ∷ no_text leaf piece ∷ []) (length leaf) ≡ value m
    passed = sym says ∙ ap outcome f

    pub checked-passed : {A : Type 0} (qs : List Rule) (a : A) → ruled (off_chars leaf s e ∷ no_text leaf piece ∷ qs) a ≡ ruled qs a
    checked-passed qs a = more-passed (off_chars leaf s e ∷ no_text leaf piece ∷ []) qs (length leaf) m a passed

    pub checked-place : (past s e ≡ false) × (past e (length leaf) ≡ false)
    checked-place =
        let place = accepted 3 (off_chars leaf s e).1 (no_text leaf piece ∷ []) (length leaf) m passed in
        let o = neither (past s e) (not (is_boundary leaf s) || not (is_boundary leaf e)) place.0 in
        let q = neither (not (is_boundary leaf s)) (not (is_boundary leaf e)) o.1 in
        (o.0, le-ltb (length leaf) e (boundary-le leaf e (not-false _ q.1)))

-- ── the calls, by these: refused, or what the layer below does ──

module _ (region : List ℕ) (len s e : ℕ) (piece : List ℕ) (n : ℕ) (h : n ≡ length (leaf_of region len)) (r : Answer ℕ)
    (p : outcome r ≡ ruled (off_chars (take n region) s e ∷ no_text (take n region) piece ∷ []) (length (take n region))) where
  abbrev text : List ℕ
  text = replaced s e piece (leaf_of region len)

  abbrev long : List Rule
  long = (11, over region len || over region (length text)) ∷ []

  pub edit-refused : (q : Refusal) → r ≡ Err q → edited region len s e piece ≡ refused (refusal_number q)
  unfolding edited
  edit-refused q f = checked_refused region len s e piece n h r p long text q f

  pub edit-replaces : (m : ℕ) → r ≡ Ok m → replacing region len s e piece ≡ edited region len s e piece
  unfolding edited
  edit-replaces m f =
      let place = checked-place region len s e piece n h r p m f in
      replacing-is region len s e piece
      ∙ rule-passed 3 (past s e || past e (length (leaf_of region len))) long text (or-none (past s e) _ place.0 place.1)
      ∙ sym (checked-passed region len s e piece n h r p m f long text)

module _ (region : List ℕ) (len i : ℕ) (right : List ℕ) (n : ℕ) (h : n ≡ length (leaf_of region len)) (r : Answer ℕ)
    (p : outcome r ≡ ruled (off_chars (take n region) i i ∷ no_text (take n region) [] ∷ []) (length (take n region))) where
  abbrev long-parts : List Rule
  long-parts = (11, over region len || over_sides region right (leaf_of region len) i) ∷ []

  pub split-refused : (q : Refusal) → r ≡ Err q → split_off region len i right ≡ refused (refusal_number q)
  unfolding split_off
  split-refused q f = checked_refused region len i i [] n h r p long-parts (cut_at (leaf_of region len) i) q f

  pub split_parts : (m : ℕ) → r ≡ Ok m → parting region len i right ≡ split_off region len i right
  unfolding split_off
  split_parts m f =
      parting-is region len i right
      ∙ rule-passed 3 (past i (length (leaf_of region len))) long-parts (cut_at (leaf_of region len) i) (checked-place region len i i [] n h r p m f).1
      ∙ sym (checked-passed region len i i [] n h r p m f long-parts (cut_at (leaf_of region len) i))

module _ (region : List ℕ) (len i : ℕ) (piece right : List ℕ) (n : ℕ) (h : n ≡ length (leaf_of region len)) (r : Answer ℕ)
    (p : outcome r ≡ ruled (off_chars (take n region) i i ∷ no_text (take n region) piece ∷ []) (length (take n region))) where
  abbrev whole : List ℕ
  whole = put_in i piece (leaf_of region len)

  abbrev long-halves : List Rule
  long-halves = (11, over region len || over_sides region right whole (half_split whole)) ∷ []

  pub insert-refused : (q : Refusal) → r ≡ Err q → inserted_split region len i piece right ≡ refused (refusal_number q)
  unfolding inserted_split
  insert-refused q f = checked_refused region len i i piece n h r p long-halves (cut_at whole (half_split whole)) q f

  pub insert-halves : (m : ℕ) → r ≡ Ok m → halving region len i piece right ≡ inserted_split region len i piece right
  unfolding inserted_split
  insert-halves m f =
      halving-is region len i piece right
      ∙ rule-passed 3 (past i (length (leaf_of region len))) long-halves (cut_at whole (half_split whole)) (checked-place region len i i piece n h r p m f).1
      ∙ sym (checked-passed region len i i piece n h r p m f long-halves (cut_at whole (half_split whole)))

-- ── two leaves at a seam ──

module _ {A : Type 0} (l r : List ℕ) (a : A) where
  abbrev seam-rules : List Rule
  seam-rules = no_side l r ∷ no_text l r ∷ []

  pub left-empty : length l ≡ 0 → refused 12 ≡ ruled seam-rules a
  left-empty e = sym (rule-applies 12 (no_side l r).1 (no_text l r ∷ []) a (or_left _ _ (eq-eqb (length l) 0 e)))

  pub right-empty : length r ≡ 0 → refused 12 ≡ ruled seam-rules a
  right-empty e = sym (rule-applies 12 (no_side l r).1 (no_text l r ∷ []) a (or_right (eqb (length l) 0) _ (eq-eqb (length r) 0 e)))

  module _ (h : length l ≡ 0 → ⊥) (k : length r ≡ 0 → ⊥) where
    two-sides : ruled seam-rules a ≡ ruled (no_text l r ∷ []) a
    two-sides = rule-passed 12 (no_side l r).1 (no_text l r ∷ []) a (or-none _ _ (ne_eqb (length l) 0 h) (ne_eqb (length r) 0 k))

    pub left-bad : valid_utf8 l ≡ false → refused 5 ≡ ruled seam-rules a
    left-bad e = sym (two-sides ∙ one-applies 5 (no_text l r).1 a (or_left _ _ (ap not e)))

    pub right-bad : valid_utf8 r ≡ false → refused 5 ≡ ruled seam-rules a
    right-bad e = sym (two-sides ∙ one-applies 5 (no_text l r).1 a (or_right (not (valid_utf8 l)) _ (ap not e)))

    pub seam-good : valid_utf8 l ≡ true → valid_utf8 r ≡ true → value a ≡ ruled seam-rules a
    seam-good v w = sym (two-sides ∙ one-passed 5 (no_text l r).1 a (or-none _ _ (ap not v) (ap not w)))

module _ (left : List ℕ) (len : ℕ) (right : List ℕ) (rlen n m : ℕ) (h : n ≡ length (leaf_of left len)) (k : m ≡ length (leaf_of right rlen)) (r : Answer ℕ)
    (p : outcome r ≡ ruled (no_side (take n left) (take m right) ∷ no_text (take n left) (take m right) ∷ []) (length (take n left))) where
  abbrev a : List ℕ
  a = leaf_of left len

  abbrev b : List ℕ
  b = leaf_of right rlen

  abbrev two : List ℕ × List ℕ
  two = cut_at (a ++ b) (seam_split a b)

  abbrev long-sides : List Rule
  long-sides = (11, (over left len || over right rlen) || over_sides left right (a ++ b) (seam_split a b)) ∷ []

  seam-says : outcome r ≡ ruled (no_side a b ∷ no_text a b ∷ []) (length a)
  seam-says =
      p
      ∙ ap (λ (x : List ℕ). ruled (no_side x (take m right) ∷ no_text x (take m right) ∷ []) (length x)) (held-part left len n h)
      ∙ ap (λ (x : List ℕ). ruled (no_side a x ∷ no_text a x ∷ []) (length a)) (held-part right rlen m k)

  pub seam-refused : (q : Refusal) → r ≡ Err q → seam_fixed left len right rlen ≡ refused (refusal_number q)
  unfolding seam_fixed
  seam-refused q f = more-refused (no_side a b ∷ no_text a b ∷ []) long-sides (length a) two (refusal_number q) (sym seam-says ∙ ap outcome f)

  pub seam-mends : (i : ℕ) → r ≡ Ok i → mending left len right rlen ≡ seam_fixed left len right rlen
  unfolding seam_fixed
  seam-mends i f =
      let passed = sym seam-says ∙ ap outcome f in
      mending-is left len right rlen
      ∙ rule-passed 12 (no_side a b).1 long-sides two (accepted 12 (no_side a b).1 (no_text a b ∷ []) (length a) i passed).0
      ∙ sym (more-passed (no_side a b ∷ no_text a b ∷ []) long-sides (length a) i two passed)

-- What the check of a tree answers: `Some` exactly where the tree is sound, uses no slot twice and none that was met before. With it the
-- counts of its text, whether the text begins with LF, and whether it ends in CR.
use Rattle.std.specs.Prelude.{◌≡◌, Option, Some, None, Bool, true, not, cond, ◌&&◌, List, map, ℕ, ◌+◌, ◌≤◌, eqb, get_or, take}
use Rattle.plain.specs.Utf8.{valid_utf8, decode}
use Rattle.plain.specs.Count.{bit, cr_last, lf_first}
use Rattle.text_info.specs.declared.TextInfo.{TextInfo}
use Rattle.text_info.specs.declared.TextSum.{TextSum}
use Rattle.pool.specs.declared.Kid.{Kid}
use Rattle.pool.specs.Slot.{len_of, region_of, entries}
use Rattle.nodes.specs.Node.{is_leaf, is_list}
use Rattle.tree.specs.Tree.{bytes_below, uses, join_over, every, seamless, sum_of, tells, sound}
use Rattle.tree.specs.Kids.{below, fine, uses_of}
use Rattle.tree_check.specs.declared.Met.{Met}
use Rattle.tree_check.specs.declared.Shape.{Shape}
use Rattle.tree_check.specs.declared.Shape.TheVariants as Shape·case

-- ── the slots that were met ──

-- 1 where a slot was met, which any byte but 0 says; past the end counts as met
unfoldable pub mark : List ℕ → ℕ → ℕ
mark seen x = bit (not (eqb (get_or seen x 1) 0))

-- no slot that u counts was met, and u counts none twice
pub record Fresh (seen : List ℕ) (u : ℕ → ℕ) : Type 0 where
  pub at : (x : ℕ) → mark seen x + u x ≤ 1

-- `later` has the marks of `seen`, and those that u counts
pub record Marked (seen : List ℕ) (u : ℕ → ℕ) (later : List ℕ) : Type 0 where
  pub at : (x : ℕ) → mark later x ≡ mark seen x + u x

-- ── a text ──

-- its counts, whether it begins with LF, and whether it ends in CR
pub record Told (t : List ℕ) (sum : TextSum) (lf cr : Bool) : Type 0 where
  pub counts : sum ≡ sum_of (decode t)
  pub first : lf ≡ lf_first t
  pub last : cr ≡ cr_last t

pub record TextFine (t : List ℕ) (sum : TextSum) (lf cr : Bool) : Type 0 where
  pub valid : valid_utf8 t ≡ true
  pub told : Told t sum lf cr

abbrev pub TextMet : List ℕ → Option Met → Type 0
TextMet t (Some k) = TextFine t k.sum k.lf k.cr
TextMet t None = valid_utf8 t ≡ true → ⊥

-- ── a node ──

-- a slot that can be a node of height h: a leaf or a list with its length, which is `least` or more
pub record LeafShape (m : List ℕ) (least h s n : ℕ) : Type 0 where
  pub height : h ≡ 0
  pub leaf : is_leaf m s ≡ true
  pub len : len_of m s ≡ n
  pub size : least ≤ n
  pub few : n ≤ 512

pub record ListShape (m : List ℕ) (least h s n : ℕ) : Type 0 where
  pub height : h ≡ 0 → ⊥
  pub list : is_list m s ≡ true
  pub len : len_of m s ≡ n
  pub size : least ≤ n
  pub few : n ≤ 16

abbrev pub ShapeIs : List ℕ → ℕ → ℕ → ℕ → Option Shape → Type 0
ShapeIs m least h s (Some (Shape·case.Leaf n)) = LeafShape m least h s n
ShapeIs m least h s (Some (Shape·case.List n)) = ListShape m least h s n
ShapeIs m least h s None = sound m least h s ≡ true → ⊥

pub record NodeFine (m seen later : List ℕ) (least h s : ℕ) (sum : TextSum) (lf cr : Bool) : Type 0 where
  pub good : sound m least h s ≡ true
  pub fresh : Fresh seen (uses m h s)
  pub told : Told (bytes_below m h s) sum lf cr
  pub marked : Marked seen (uses m h s) later

abbrev pub NodeMet : List ℕ → List ℕ → List ℕ → ℕ → ℕ → ℕ → Option Met → Type 0
NodeMet m seen later least h s (Some k) = NodeFine m seen later least h s k.sum k.lf k.cr
NodeMet m seen later least h s None = sound m least h s ≡ true → Fresh seen (uses m h s) → ⊥

-- ── children of height h ──

-- the first n entries of a slot's region
abbrev pub kids_to : List ℕ → ℕ → ℕ → List Kid
kids_to m s n = take n (entries (region_of m s))

-- the counts that the list has for a child are those of its text, and the child's text does not begin with the LF of a CR before it
abbrev pub follows : TextInfo → TextSum → Bool → Bool → Bool
follows i got cr lf = tells i got && not (cr && lf)

-- whether the text of i children and one more begins with LF
abbrev pub begun : ℕ → Bool → Bool → Bool
begun i lf first = cond (eqb i 0) first lf

pub record KidsFine (m seen later : List ℕ) (h : ℕ) (ks : List Kid) (sum : TextSum) (lf cr : Bool) : Type 0 where
  pub each : every (fine m h) ks ≡ true
  pub seams : seamless (map (below m h) ks) ≡ true
  pub fresh : Fresh seen (uses_of m h ks)
  pub told : Told (join_over (below m h) ks) sum lf cr
  pub marked : Marked seen (uses_of m h ks) later

abbrev pub KidsMet : List ℕ → List ℕ → List ℕ → ℕ → List Kid → Option Met → Type 0
KidsMet m seen later h ks (Some k) = KidsFine m seen later h ks k.sum k.lf k.cr
KidsMet m seen later h ks None = every (fine m h) ks ≡ true → seamless (map (below m h) ks) ≡ true → Fresh seen (uses_of m h ks) → ⊥

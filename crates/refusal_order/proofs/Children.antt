-- The calls that reach through a child of a list to its node. Where one call is asked behind another, its refusals are shown to stand among the
-- other's, in one list of rules.
use mathlib.Core.Path.{◌≡◌, refl, sym, ◌∙◌}
use mathlib.Core.Bool.{Bool, true, false, not, ◌&&◌, ◌||◌, cond, true≢false, false≢true}
use mathlib.Core.List.{List, [], ◌∷◌, ◌++◌}
use Prim.Native.Nat.{ℕ, ◌-◌}
use lib.Dec.{leb}
use lib.ListN.{length, take, drop, get_or}
use borrow.Author.Tests.{not-false}
use Rattle.plain.specs.Outcome.{Outcome, Outcome.value, Outcome.refused, ruled, past, mapped}
use Rattle.plain.proofs.Logic.{and_left, neither}
use Rattle.leaf_bytes.specs.Split.{half_split}
use Rattle.text_info.specs.declared.TextInfo.{TextInfo}
use Rattle.pool.specs.declared.Kid.{Kid}
use Rattle.pool.specs.Slot.{no_kid}
use Rattle.node_children.specs.Calls.{left_of}
use Rattle.nodes.specs.Node.{is_leaf, is_list, text_of, children_of, too_wide, total_of, counts_of, lost, ill}
use Rattle.nodes.specs.Calls.{counted}
use Rattle.child_info.specs.Kin.{refused_by, some_of, slot_in, repeats, slots_of, mixed, broken, some_lost, some_ill, childless, kids_in, rises, pair_at}
use Rattle.child_info.specs.Renewed.{slot_at, renewing}
use Rattle.child_info.specs.Calls.{after, names, updated, accurate, all_rules, pair_rules}
use Rattle.merge.specs.Join.{joined}
use Rattle.merge.specs.Merge.{settled, merging}
use Rattle.compact.specs.Pack.{compacted}
use Rattle.refusal_order.specs.Order.{judged, InOrder}
use Rattle.refusal_order.proofs.Given.{by-rules}

-- ── one list of rules ──

-- `check_all`, and `compact_leaves` behind it
pub all-order : (m : List ℕ) (p : ℕ) → InOrder (all_rules m p) (ruled (all_rules m p) (tt {0}))
all-order m p = by-rules _ _ refl

pub compacted-order : (m : List ℕ) (p : ℕ) → InOrder (all_rules m p) (compacted m p)
unfolding compacted
compacted-order m p = by-rules _ _ refl

-- `check_pair`
pub pair-order : (m : List ℕ) (p i j : ℕ) → InOrder (pair_rules m p i j) (ruled (pair_rules m p i j) (tt {0}))
pair-order m p i j = by-rules _ _ refl

-- `is_info_accurate`
pub accurate-order : (m : List ℕ) (p : ℕ) → InOrder ((2, not (is_list m p) || some_lost m (kids_in m p)) ∷ (5, some_ill m (kids_in m p)) ∷ []) (accurate m p)
unfolding accurate
accurate-order m p = by-rules _ _ refl

-- ── `update_child_info`: the counting is asked of a child that there is ──

counted-behind : {A B : Type 0} (a b n l i : Bool) (f : A → B) (v : A)
    → judged (after ((12, a) ∷ (2, not b) ∷ (3, not n) ∷ []) (mapped f (ruled ((2, l) ∷ (5, i) ∷ []) v)))
    ≡ ruled ((12, a) ∷ (2, not b || (n && l)) ∷ (3, not n) ∷ (5, n && i) ∷ []) tt
unfolding after ruled
counted-behind true b n l i f v = refl
counted-behind false false n l i f v = refl
counted-behind false true false l i f v = refl
counted-behind false true true true i f v = refl
counted-behind false true true false true f v = refl
counted-behind false true true false false f v = refl

pub updated-order : (m : List ℕ) (p i : ℕ)
    → InOrder
    ((12, childless m p)
    ∷ (2, not (is_list m p) || (names m p i && lost m (slot_at m p i)))
    ∷ (3, not (names m p i))
    ∷ (5, names m p i && ill m (slot_at m p i))
    ∷ []) (updated m p i)
unfolding updated renewing counted
updated-order m p i =
    record { settled = counted-behind (childless m p) (is_list m p) (names m p i) (lost m (slot_at m p i)) (ill m (slot_at m p i)) _ _; order = refl }

-- ── `merge_distribute`: two children are joined behind the pair's rules ──

-- 2: counts of lists that do not fit, together or shared; 11: a side of two texts is too long
abbrev pub wide_both : List Kid → Bool
wide_both ks = cond (leb (length ks) 16) (too_wide (total_of ks)) (too_wide (total_of (take (left_of (length ks)) ks)) || too_wide (total_of (drop (left_of (length ks)) ks)))

abbrev pub over_both : List ℕ → Bool
over_both t = not (leb (length t) 512) && (past (half_split t) 512 || past (length t - half_split t) 512)

module _ (m : List ℕ) (a b : ℕ) where
  abbrev pub wide : Bool
  wide = not (is_leaf m a) && wide_both (children_of m a ++ children_of m b)

  abbrev pub overfull : Bool
  overfull = is_leaf m a && over_both (text_of m a ++ text_of m b)

  join-law : {A : Type 0} (l h o k w x : Bool) (v : A) (q r s : A)
      → judged (cond l (cond h (value v) (ruled ((11, o) ∷ []) q)) (cond k (ruled ((2, w) ∷ []) r) (ruled ((2, x) ∷ []) s)))
      ≡ ruled ((2, not l && cond k w x) ∷ (11, l && (not h && o)) ∷ []) tt
  unfolding ruled
  join-law true true o k w x v q r s = refl
  join-law true false true k w x v q r s = refl
  join-law true false false k w x v q r s = refl
  join-law false h o true true x v q r s = refl
  join-law false h o true false x v q r s = refl
  join-law false h o false w true v q r s = refl
  join-law false h o false w false v q r s = refl

  join-rules : judged (joined m a b) ≡ ruled ((2, wide) ∷ (11, overfull) ∷ []) tt
  unfolding joined
  join-rules =
      let t = text_of m a ++ text_of m b in
      let ks = children_of m a ++ children_of m b in
      join-law (is_leaf m a) (leb (length t) 512) (past (half_split t) 512 || past (length t - half_split t) 512) (leb (length ks) 16) (too_wide (total_of ks))
      (too_wide (total_of (take (left_of (length ks)) ks)) || too_wide (total_of (drop (left_of (length ks)) ks))) _ _ _ _

-- a node that was not counted is no text, and so a leaf; one that is not lost is a leaf or a list
module _ (m : List ℕ) (s : ℕ) where
  refused-five : (l i : Bool) (v : TextInfo) → refused_by 5 (ruled ((2, l) ∷ (5, i) ∷ []) v) ≡ true → i ≡ true
  unfolding ruled
  refused-five true i v e = absurd (false≢true e)
  refused-five false true v e = refl
  refused-five false false v e = absurd (false≢true e)

  refused-two : (l i : Bool) (v : TextInfo) → refused_by 2 (ruled ((2, l) ∷ (5, i) ∷ []) v) ≡ false → l ≡ false
  unfolding ruled
  refused-two true i v e = absurd (true≢false e)
  refused-two false i v e = refl

  ill-leaf : refused_by 5 (counted m s) ≡ true → is_leaf m s ≡ true
  unfolding counted ill
  ill-leaf e = and_left (is_leaf m s) _ (refused-five (lost m s) (ill m s) (counts_of m s) e)

  kept-kind : refused_by 2 (counted m s) ≡ false → is_leaf m s ≡ false → is_list m s ≡ true
  unfolding counted lost
  kept-kind e f =
      let n = neither (not (is_leaf m s || is_list m s)) (is_list m s && too_wide (total_of (children_of m s))) (refused-two (lost m s) (ill m s) (counts_of m s) e) in
      rw f at (not-false (is_leaf m s || is_list m s) n.0)

-- of two children of one kind, of which the first is a node and one is no text, the first is a leaf
ill-first : (m : List ℕ) (x y : Kid) → mixed m (x ∷ y ∷ []) ≡ false → refused_by 2 (counted m x.slot) ≡ false → some_ill m (x ∷ y ∷ []) ≡ true
    → is_leaf m x.slot ≡ true
unfolding some_of
ill-first m x y one node no_text = go (is_leaf m x.slot) refl (refused_by 5 (counted m x.slot)) refl (refused_by 5 (counted m y.slot)) refl
  where
    go : (a : Bool) → is_leaf m x.slot ≡ a → (b : Bool) → refused_by 5 (counted m x.slot) ≡ b → (c : Bool) → refused_by 5 (counted m y.slot) ≡ c
        → is_leaf m x.slot ≡ true
    go true e b f c g = e
    go false e true f c g = absurd (true≢false (sym (ill-leaf m x.slot f) ∙ e))
    go false e false f true g =
        let l = kept-kind m x.slot node e in
        absurd (true≢false (sym (rw (ill-leaf m y.slot g, l, e)) ∙ one))
    go false e false f false g = absurd (false≢true (rw (f, g) at no_text))

judged-mapped : {A B : Type 0} (f : A → B) (o : Outcome A) → judged (mapped f o) ≡ judged o
judged-mapped f (value a) = refl
judged-mapped f (refused n) = refl

joined-behind : {A B : Type 0} (a b r i w u : Bool) (f : A → B) (o : Outcome A) → (a ≡ false → b ≡ false → r ≡ true → i ≡ true → w ≡ false)
    → judged o ≡ ruled ((2, w) ∷ (11, u) ∷ []) tt
    → judged (after ((12, a) ∷ (2, b) ∷ (3, not r) ∷ (5, i) ∷ []) (mapped f o))
    ≡ ruled ((12, a) ∷ (2, b || (r && w)) ∷ (3, not r) ∷ (5, i) ∷ (11, u) ∷ []) tt
unfolding after ruled
joined-behind true b r i w u f o h e = refl
joined-behind false true r i w u f o h e = refl
joined-behind false false false i w u f o h e = refl
joined-behind false false true true w u f o h e = sym (rw (h refl refl refl refl))
joined-behind false false true false w u f o h e = judged-mapped f o ∙ e

module _ (m : List ℕ) (p i j : ℕ) where
  abbrev pub two : List Kid
  two = pair_at i j (kids_in m p)

  abbrev first : ℕ
  first = slot_in (children_of m p) i

  abbrev second : ℕ
  second = slot_in (children_of m p) j

  narrow : (childless m p || mixed m two) ≡ false → (not (is_list m p) || broken m p two) ≡ false → rises i j (kids_in m p) ≡ true → some_ill m two ≡ true
      → wide m first second ≡ false
  unfolding some_of
  narrow a b r e =
      let n = neither (childless m p) (mixed m two) a in
      let o = neither (not (is_list m p)) (broken m p two) b in
      let l = not-false (is_list m p) o.0 in
      let x = get_or (children_of m p) i no_kid in
      let y = get_or (children_of m p) j no_kid in
      let z : two ≡ x ∷ y ∷ [] = rw (r, l) in
      let whole : broken m p (x ∷ y ∷ []) ≡ false = rw z at o.1 in
      let node = (neither (refused_by 2 (counted m x.slot)) _ (neither _ (repeats (p ∷ slots_of (x ∷ y ∷ []))) whole).0).0 in
      rw (ill-first m x y (rw z at n.1) node (rw z at e))

  pub merging-order : InOrder
      ((12, childless m p || mixed m two)
      ∷ (2, (not (is_list m p) || broken m p two) || (rises i j (kids_in m p) && wide m first second))
      ∷ (3, not (rises i j (kids_in m p)))
      ∷ (5, some_ill m two)
      ∷ (11, overfull m first second)
      ∷ []) (merging m p i j)
  unfolding merging
  merging-order =
      record {
        settled = joined-behind (childless m p || mixed m two) (not (is_list m p) || broken m p two) (rises i j (kids_in m p)) (some_ill m two) (wide m first second) (overfull m first second) (settled p (children_of m p) i j) (joined m first second) narrow (join-rules m first second);
        order = refl;
      }

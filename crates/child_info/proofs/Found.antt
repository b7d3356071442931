-- What the crates above learn from an accepted check of children, from a node that was counted, and from an entry counted anew.
use mathlib.Core.Path.{◌≡◌, refl, sym, ap, ◌∙◌}
use mathlib.Core.Bool.{Bool, true, false, not, ◌&&◌, ◌||◌, true≢false}
use mathlib.Core.List.{List, [], ◌∷◌}
use Prim.Native.Nat.{ℕ, zero, suc, ◌<◌}
use native.Mathlib.Omega.{arith}
use lib.Dec.{eqb, ltb}
use lib.ListN.{length, drop, get_or}
use lib.Seq.{get_or-take}
use borrow.Author.Tests.{ltb-true, eqb-false, ne_eqb, not-false}
use Rattle.plain.specs.Utf8.{valid_utf8}
use Rattle.plain.specs.Outcome.{Outcome.value, ruled, mapped}
use Rattle.plain.proofs.Logic.{and_left, and_right, neither}
use Rattle.plain.proofs.Outcome.{accepted}
use Rattle.text_info.specs.declared.TextInfo.{TextInfo}
use Rattle.pool.specs.declared.Kid.{Kid}
use Rattle.pool.specs.Slot.{len_of, region_of, entries, no_kid, kid_put}
use Rattle.nodes.specs.Node.{is_leaf, is_list, text_of, children_of, too_wide, total_of, counts_of, lost, ill}
use Rattle.nodes.specs.Calls.{counted}
use Rattle.child_info.specs.declared.checks.Ask.TheVariants as Ask·case
use Rattle.child_info.specs.Kin.{refused_by, asks_of, some_of, slots_of, slot_in, among, repeats, mixed, broken, some_ill, childless, kids_in, rises, pair_at}
use Rattle.child_info.specs.Leaves.{LeafText, AllLeaves, Alike, Alike.leaves, Alike.lists, Mergeable}
use Rattle.child_info.specs.Renewed.{slot_at, renewed, renewing, Renews}
use Rattle.child_info.specs.Calls.{updated, all_rules, pair_rules}
use Rattle.nodes.proofs.Heads.{leaf-no-list, not_so}
use Rattle.nodes.proofs.Accepted.{counted_is, counted-only}
use Rattle.child_info.proofs.Turns.{Of, some-law}
use Rattle.child_info.proofs.Renewing.{updated-on}
use Rattle.child_info.proofs.Rules.{tested, children-length, pair-at}

-- ── a node that was counted ──

-- a leaf with a text, or a list
pub data Whole (m : List ℕ) (s : ℕ) : Type 0 where
  text : LeafText m s → Whole m s
  list : is_list m s ≡ true → Whole m s

-- a counting that neither rule refuses
unrefused : (a b : Bool) (v : TextInfo) → refused_by 2 (ruled ((2, a) ∷ (5, b) ∷ []) v) ≡ false → refused_by 5 (ruled ((2, a) ∷ (5, b) ∷ []) v) ≡ false
    → ruled ((2, a) ∷ (5, b) ∷ []) v ≡ value v
unfolding ruled
unrefused true b v f g = absurd (true≢false f)
unrefused false true v f g = absurd (true≢false g)
unrefused false false v f g = refl

module _ (m : List ℕ) (s : ℕ) where
  leaf-or-list : (l : Bool) → is_leaf m s ≡ l → lost m s ≡ false → ill m s ≡ false → Whole m s
  unfolding lost ill
  leaf-or-list true e f g = text (record { leaf = e; text = not-false (valid_utf8 (text_of m s)) (rw e at g) })
  leaf-or-list false e f g =
      let n = neither (not (is_leaf m s || is_list m s)) (is_list m s && too_wide (total_of (children_of m s))) f in
      list (rw e at (not-false (is_leaf m s || is_list m s) n.0))

  pub counted-node : (t : TextInfo) → counted m s ≡ value t → Whole m s
  counted-node t e = let c = counted-only m s t e in leaf-or-list (is_leaf m s) refl c.0 c.1

  -- a leaf with a text is counted
  pub text-counted : LeafText m s → counted m s ≡ value (counts_of m s)
  unfolding lost ill
  text-counted h = counted_is m s (rw (h.leaf, leaf-no-list m s h.leaf)) (rw (h.leaf, h.text))

  -- and so is a node whose counting neither rule refuses
  pub counted-so : refused_by 2 (counted m s) ≡ false → refused_by 5 (counted m s) ≡ false → counted m s ≡ value (counts_of m s)
  unfolding counted
  counted-so f g = unrefused (lost m s) (ill m s) (counts_of m s) f g

-- of one kind, or of the other
not-list : (m : List ℕ) (s : ℕ) → is_list m s ≡ false → Whole m s → LeafText m s
not-list m s e (text t) = t
not-list m s e (list l) = absurd (true≢false (sym l ∙ e))

not-leaf : (m : List ℕ) (s : ℕ) → is_leaf m s ≡ false → Whole m s → is_list m s ≡ true
not-leaf m s e (text t) = absurd (true≢false (sym t.leaf ∙ e))
not-leaf m s e (list l) = l

-- ── an entry counted anew ──

module _ (m : List ℕ) (p i : ℕ) where
  pub renews : counted m (slot_at m p i) ≡ value (counts_of m (slot_at m p i)) → Renews m p i
  unfolding renewing
  renews e = ap (mapped (λ (t : TextInfo). kid_put m p i (record { slot = slot_at m p i; info = t }))) e

  pub updated-renews : is_list m p ≡ true → i < len_of m p → Renews m p i → updated m p i ≡ value (renewed m p i)
  updated-renews e h r = updated-on m p i e h ∙ r

  -- the slot of an entry that is a child
  pub slot-at : i < len_of m p → slot_in (children_of m p) i ≡ slot_at m p i
  slot-at h = ap (λ (k : Kid). k.slot) (get_or-take (len_of m p) (entries (region_of m p)) i no_kid h)

-- ── children that may be moved ──

-- a test that holds of no child
each-not : (f : List Kid → Bool) (g : Kid → List Kid → Bool) → Of f g → (ks : List Kid) → f ks ≡ false → (i : ℕ) → i < length ks
    → g (get_or ks i no_kid) (drop (suc i) ks) ≡ false
each-not f g law [] e i h = absurd (omega arith)
each-not f g law (k ∷ ks) e zero h = (neither (g k ks) (f ks) (sym (law.one k ks) ∙ e)).0
each-not f g law (k ∷ ks) e (suc i) h = each-not f g law ks (neither (g k ks) (f ks) (sym (law.one k ks) ∙ e)).1 i (omega arith)

-- some children of the list in slot p, of one kind, that are nodes and texts, each in a slot of its own
pub record Movable (m : List ℕ) (p : ℕ) (ks : List Kid) : Type 0 where
  pub alike : mixed m ks ≡ false
  pub nodes : some_of Ask·case.Lost m ks ≡ false
  pub other : among p (slots_of ks) ≡ false
  pub apart : repeats (slots_of ks) ≡ false
  pub texts : some_of Ask·case.Ill m ks ≡ false

movable : (m : List ℕ) (p : ℕ) (ks : List Kid) → mixed m ks ≡ false → broken m p ks ≡ false → some_ill m ks ≡ false → Movable m p ks
movable m p ks e f g =
    let n = neither (some_of Ask·case.Lost m ks) (repeats (p ∷ slots_of ks)) f in
    let r = neither (among p (slots_of ks)) (repeats (slots_of ks)) n.1 in
    record { alike = e; nodes = n.0; other = r.0; apart = r.1; texts = g }

module _ (m : List ℕ) (p : ℕ) (ks : List Kid) (may : Movable m p ks) where
  none_is : (q : Ask·case.the_data) → some_of q m ks ≡ false → (i : ℕ) → i < length ks → asks_of q m (get_or ks i no_kid) ≡ false
  none_is q e i h = each-not (some_of q m) (λ k l. asks_of q m k) (some-law q m) ks e i h

  -- each has counts
  pub child-counted : (i : ℕ) → i < length ks → counted m (slot_in ks i) ≡ value (counts_of m (slot_in ks i))
  child-counted i h = counted-so m (slot_in ks i) (none_is Ask·case.Lost may.nodes i h) (none_is Ask·case.Ill may.texts i h)

  child-whole : (i : ℕ) → i < length ks → Whole m (slot_in ks i)
  child-whole i h = counted-node m (slot_in ks i) (counts_of m (slot_in ks i)) (child-counted i h)

  -- one leaf, and all are
  pub leaf-all : some_of Ask·case.Leaf m ks ≡ true → AllLeaves m ks
  leaf-all e =
      let f : some_of Ask·case.List m ks ≡ false = not_so (some_of Ask·case.List m ks) (λ t. true≢false (sym (rw (e, t)) ∙ may.alike)) in
      record { each = λ i h. not-list m (slot_in ks i) (none_is Ask·case.List f i h) (child-whole i h); apart = may.apart }

  -- or none is
  pub list_all : some_of Ask·case.Leaf m ks ≡ false → (i : ℕ) → i < length ks → is_list m (slot_in ks i) ≡ true
  list_all e i h = not-leaf m (slot_in ks i) (none_is Ask·case.Leaf e i h) (child-whole i h)

-- the first is a leaf
pub first_leaf : (m : List ℕ) (ks : List Kid) → 0 < length ks → is_leaf m (slot_in ks 0) ≡ true → some_of Ask·case.Leaf m ks ≡ true
unfolding some_of
first_leaf m [] h e = absurd (omega arith)
first_leaf m (k ∷ ks) h e = rw e

-- ── all of a list ──

pub record AllFound (m : List ℕ) (p : ℕ) : Type 0 where
  pub list : is_list m p ≡ true
  pub some : 0 < len_of m p
  pub other : among p (slots_of (children_of m p)) ≡ false
  pub leaves : some_of Ask·case.Leaf m (children_of m p) ≡ true → AllLeaves m (children_of m p)
  pub lists : some_of Ask·case.Leaf m (children_of m p) ≡ false → (i : ℕ) → i < len_of m p → is_list m (slot_in (children_of m p) i) ≡ true
  pub counts : (i : ℕ) → i < len_of m p → counted m (slot_in (children_of m p) i) ≡ value (counts_of m (slot_in (children_of m p) i))

-- a list with children
has_some : (m : List ℕ) (p : ℕ) → is_list m p ≡ true → childless m p ≡ false → 0 < len_of m p
has_some m p e f = let n = eqb-false (len_of m p) 0 (rw e at f) in pos (len_of m p) n
  where
    pos : (n : ℕ) → (n ≡ 0 → ⊥) → 0 < n
    pos zero f = absurd (f refl)
    pos (suc n) f = omega arith

pub all_found : (m : List ℕ) (p : ℕ) → tested (all_rules m p) ≡ value tt → AllFound m p
all_found m p e =
    let a = accepted 12 (childless m p || mixed m (kids_in m p)) _ _ _ e in
    let b = accepted 2 (not (is_list m p) || broken m p (kids_in m p)) _ _ _ a.1 in
    let c = accepted 5 (some_ill m (kids_in m p)) _ _ _ b.1 in
    let x = neither (childless m p) (mixed m (kids_in m p)) a.0 in
    let y = neither (not (is_list m p)) (broken m p (kids_in m p)) b.0 in
    let l = not-false (is_list m p) y.0 in
    let k = movable m p (children_of m p) (rw l at x.1) (rw l at y.1) (rw l at c.0) in
    let n = children-length m p l in
    record {
      list = l;
      some = has_some m p l x.0;
      other = k.other;
      leaves = leaf-all m p (children_of m p) k;
      lists = λ f i h. list_all m p (children_of m p) k f i (omega arith);
      counts = λ i h. child-counted m p (children_of m p) k i (omega arith);
    }

-- ── two of a list ──

pub record PairFound (m : List ℕ) (p i j : ℕ) : Type 0 where
  pub list : is_list m p ≡ true
  pub rise : i < j
  pub child : j < len_of m p
  pub pair : Mergeable m p (slot_in (children_of m p) i) (slot_in (children_of m p) j)
  pub left-counts : counted m (slot_in (children_of m p) i) ≡ value (counts_of m (slot_in (children_of m p) i))
  pub right-counts : counted m (slot_in (children_of m p) j) ≡ value (counts_of m (slot_in (children_of m p) j))

turned : (a b : ℕ) → eqb a b ≡ false → eqb b a ≡ false
turned a b e = ne_eqb b a (λ f. eqb-false a b e (sym f))

module _ (m : List ℕ) (p : ℕ) (a b : Kid) (may : Movable m p (a ∷ b ∷ [])) where
  differ : eqb a.slot b.slot ≡ false
  differ = turned b.slot a.slot (neither (eqb b.slot a.slot) false (neither (eqb b.slot a.slot || false) false may.apart).0).0

  kinds : (t : Bool) → some_of Ask·case.Leaf m (a ∷ b ∷ []) ≡ t → Alike m a.slot b.slot
  kinds true e =
      let l = leaf-all m p (a ∷ b ∷ []) may e in
      leaves (record { left = l.each 0 (omega arith); right = l.each 1 (omega arith); apart = differ })
  kinds false e = lists (list_all m p (a ∷ b ∷ []) may e 0 (omega arith)) (list_all m p (a ∷ b ∷ []) may e 1 (omega arith)) differ

  mergeable : Mergeable m p a.slot b.slot
  mergeable =
      let n = neither (eqb a.slot p) (eqb b.slot p || false) may.other in
      record {
        alike = kinds (some_of Ask·case.Leaf m (a ∷ b ∷ [])) refl;
        first = turned a.slot p n.0;
        second = turned b.slot p (neither (eqb b.slot p) false n.1).0;
      }

pub pair_found : (m : List ℕ) (p i j : ℕ) → tested (pair_rules m p i j) ≡ value tt → PairFound m p i j
pair_found m p i j e =
    let ks = pair_at i j (kids_in m p) in
    let a = accepted 12 (childless m p || mixed m ks) _ _ _ e in
    let b = accepted 2 (not (is_list m p) || broken m p ks) _ _ _ a.1 in
    let c = accepted 3 (not (rises i j (kids_in m p))) _ _ _ b.1 in
    let d = accepted 5 (some_ill m ks) _ _ _ c.1 in
    let n = neither (childless m p) (mixed m ks) a.0 in
    let o = neither (not (is_list m p)) (broken m p ks) b.0 in
    let l = not-false (is_list m p) o.0 in
    let r : rises i j (children_of m p) ≡ true = rw l at (not-false (rises i j (kids_in m p)) c.0) in
    let g = ltb-true i j (and_left (ltb i j) (ltb j (length (children_of m p))) r) in
    let h = ltb-true j (length (children_of m p)) (and_right (ltb i j) (ltb j (length (children_of m p))) r) in
    let x = get_or (children_of m p) i no_kid in
    let y = get_or (children_of m p) j no_kid in
    let k : Movable m p (x ∷ y ∷ []) =
    rw (pair-at (children_of m p) i j g h) at (movable m p (pair_at i j (children_of m p)) (rw l at n.1) (rw l at o.1) (rw l at d.0)) in
    record {
      list = l;
      rise = g;
      child = omega (arith, children-length m p l);
      pair = mergeable m p x y k;
      left-counts = child-counted m p (x ∷ y ∷ []) k 0 (omega arith);
      right-counts = child-counted m p (x ∷ y ∷ []) k 1 (omega arith);
    }

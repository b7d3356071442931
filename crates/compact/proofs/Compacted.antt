-- THEOREMS of `compact_leaves` on leaves: the memory that it leaves holds a list of some of the children, in their order, with their
-- counts; they are leaves; their texts joined are what they were; any two neighbours have more than 512 bytes together; no other slot has changed. No
-- function's proof needs them.
use mathlib.Core.Path.{◌≡◌, refl, sym, ap, subst, ◌∙◌}
use mathlib.Core.Bool.{Bool, true, false}
use mathlib.Core.List.{List, [], ◌∷◌, ◌++◌}
use Prim.Native.Nat.{ℕ, zero, suc, ◌+◌, ◌<◌}
use native.Mathlib.Omega.{arith}
use lib.Dec.{eqb}
use lib.ListN.{length, get_or, set}
use lib.Seq.{get_or-take, get_or-set_same, get_or-set_other}
use borrow.Author.Tests.{eqb-true, eqb-false, lt-ltb}
use Rattle.plain.specs.Outcome.{Outcome, Outcome.value}
use Rattle.plain.proofs.Outcome.{Known, known}
use Rattle.pool.specs.declared.Kid.{Kid}
use Rattle.pool.specs.Slot.{slot_of, len_of, region_of, entries, no_kid, Fits}
use Rattle.pool.proofs.Kids.{entries-length}
use Rattle.node_children.specs.declared.NodeChildren.{NodeChildren}
use Rattle.node_children.specs.Kids.{list_of}
use Rattle.node_children.proofs.Lists.{kids-of}
use Rattle.nodes.specs.Node.{is_leaf, is_list, text_of, children_of, counts_of, list_put, Fitting}
use Rattle.child_info.specs.Kin.{slots_of, slot_in, among, repeats}
use Rattle.child_info.specs.Leaves.{LeafText, AllLeaves}
use Rattle.child_info.specs.Renewed.{slot_at, renewed}
use Rattle.child_info.specs.Calls.{all_rules}
use Rattle.compact.specs.Pack.{packed_all, renewed_from, compacted_kids, compacted}
use Rattle.nodes.proofs.Heads.{list-says}
use Rattle.nodes.proofs.Fitted.{list-fits}
use Rattle.nodes.proofs.Put.{same}
use Rattle.child_info.proofs.Rules.{children-length}
use Rattle.child_info.proofs.Found.{first_leaf, all_found}
use Rattle.compact.proofs.Parts.{Part, Part.none, Part.keep, Part.skip, part_length, part_apart, part-repeats}
use Rattle.compact.proofs.Loops.{kid-read}
use Rattle.compact.proofs.Packing.{Packing, packing, may-relist}
use Rattle.compact.proofs.Relisted.{Listable, Renewal, Rows, rows-put, put-size, put-others, fewer, done, next}
use Rattle.compact.proofs.Called.{left}
use Rattle.compact.proofs.Texts.{texts_of, over-at, packed-texts, packed-over}

-- ── every entry counted anew ──

-- the child at i, with the counts of its node
abbrev pub counted_kid : List ℕ → ℕ → Kid
counted_kid m s = record { slot = s; info = counts_of m s }

pub record Counting (m₀ : List ℕ) (p : ℕ) (c : NodeChildren) (m : List ℕ) (i : ℕ) : Type 0 where
  pub rows : Rows m₀ p c m i
  pub others : (u : ℕ) → (u ≡ p → ⊥) → slot_of m u ≡ slot_of m₀ u
  pub counted : (j : ℕ) → j < i → get_or (entries (region_of m p)) j no_kid ≡ counted_kid m (get_or c.arr j no_kid).slot

module _ (m₀ : List ℕ) (p : ℕ) (c : NodeChildren) where
  module _ (m : List ℕ) (i : ℕ) (x : Counting m₀ p c m i) (more : i < c.len) where
    this-turn : Renewal m p i (renewed m p i)
    this-turn = done m₀ p c m i x.rows more

    small : i < 16
    small = fewer m₀ p c m i x.rows more

    -- the counts of a child stay
    still : (j : ℕ) → j < c.len → counted_kid m (get_or c.arr j no_kid).slot ≡ counted_kid (renewed m p i) (get_or c.arr j no_kid).slot
    still j h =
        let s = (get_or c.arr j no_kid).slot in
        let e = (same (renewed m p i) m s (this-turn.others s (λ f. x.rows.apart j h (sym f))) this-turn.size).counts in
        ap (λ t. record { slot = s; info = t }) (sym e)

    entry : (t : Bool) (j : ℕ) → eqb j i ≡ t → j < i + 1 → get_or (set (entries (region_of m p)) i (counted_kid m (slot_at m p i))) j no_kid ≡ counted_kid m (get_or c.arr j no_kid).slot
    entry true j e h =
        let z = eqb-true j i e in
        ap (λ (n : ℕ). get_or (set (entries (region_of m p)) i (counted_kid m (slot_at m p i))) n no_kid) z
        ∙ get_or-set_same (entries (region_of m p)) i (counted_kid m (slot_at m p i)) no_kid (omega (arith, entries-length (region_of m p), small))
        ∙ ap (counted_kid m) (x.rows.slots i small ∙ ap (λ (n : ℕ). (get_or c.arr n no_kid).slot) (sym z))
    entry false j e h =
        let n = eqb-false j i e in
        get_or-set_other (entries (region_of m p)) i j (counted_kid m (slot_at m p i)) no_kid n ∙ x.counted j (less j i n h)
      where
        less : (a b : ℕ) → (a ≡ b → ⊥) → a < b + 1 → a < b
        less a b f g = omega arith

    counting-turn : Counting m₀ p c (renewed m p i) (i + 1)
    counting-turn = record {
      rows = next m₀ p c m i x.rows more;
      others = λ u f. this-turn.others u f ∙ x.others u f;
      counted = λ j h. ap (λ (es : List Kid). get_or es j no_kid) this-turn.at ∙ entry (eqb j i) j refl h ∙ still j (omega arith);
    }

  counting : (n : ℕ) (m : List ℕ) (i : ℕ) → Counting m₀ p c m i → i + n ≡ c.len → Counting m₀ p c (renewed_from m p i n) c.len
  unfolding renewed_from
  counting zero m i x e = subst (λ (j : ℕ). Counting m₀ p c m j) (let z : i ≡ c.len = omega arith in z) x
  counting (suc n) m i x e = counting n (renewed m p i) (i + 1) (counting-turn m i x (omega arith)) (omega arith)

-- ── the list's numbers have 32 bits ──

part-each : (P : Kid → Type 0) {xs ys : List Kid} → Part xs ys → ((i : ℕ) → i < length ys → P (get_or ys i no_kid)) → (i : ℕ) → i < length xs → P (get_or xs i no_kid)
part-each P none f i h = absurd (omega arith)
part-each P (keep q) f zero h = f 0 (omega arith)
part-each P (keep q) f (suc i) h = part-each P q (λ j g. f (suc j) (omega arith)) i (omega arith)
part-each P (skip q) f i h = part-each P q (λ j g. f (suc j) (omega arith)) i h

-- ── texts of children in the same slots ──

texts-like : (l m : List ℕ) (ks js : List Kid) → length l ≡ length m → length ks ≡ length js → ((i : ℕ) → i < length js → slot_in ks i ≡ slot_in js i)
    → ((i : ℕ) → i < length js → slot_of l (slot_in js i) ≡ slot_of m (slot_in js i)) → texts_of l ks ≡ texts_of m js
unfolding texts_of
texts-like l m [] [] n e f g = refl
texts-like l m [] (j ∷ js) n e f g = absurd (omega arith)
texts-like l m (k ∷ ks) [] n e f g = absurd (omega arith)
texts-like l m (k ∷ ks) (j ∷ js) n e f g =
    ap (λ (t : List ℕ). t ++ texts_of l ks) (ap (λ (s : ℕ). text_of l s) (f 0 (omega arith)) ∙ (same l m j.slot (g 0 (omega arith)) n).text)
    ∙ ap (λ (t : List ℕ). text_of m j.slot ++ t) (texts-like l m ks js n (omega arith) (λ i h. f (suc i) (omega arith)) (λ i h. g (suc i) (omega arith)))

slots-like : (ks js : List Kid) → length ks ≡ length js → ((i : ℕ) → i < length js → slot_in ks i ≡ slot_in js i) → slots_of ks ≡ slots_of js
slots-like [] [] e f = refl
slots-like [] (j ∷ js) e f = absurd (omega arith)
slots-like (k ∷ ks) [] e f = absurd (omega arith)
slots-like (k ∷ ks) (j ∷ js) e f =
    ap (λ (s : ℕ). s ∷ slots_of ks) (f 0 (omega arith)) ∙ ap (λ (ss : List ℕ). j.slot ∷ ss) (slots-like ks js (omega arith) (λ i h. f (suc i) (omega arith)))

-- ── the theorems ──

pub record Compact (m : List ℕ) (p : ℕ) (l : List ℕ) : Type 0 where
  pub size : length l ≡ length m
  pub list : is_list l p ≡ true
  pub rest : List Kid
  pub part : Part rest (children_of m p)
  pub len : len_of l p ≡ length rest
  pub slots : slots_of (children_of l p) ≡ slots_of rest
  pub leaves : AllLeaves l (children_of l p)
  pub apart : among p (slots_of (children_of l p)) ≡ false
  pub counts : (j : ℕ) → j < len_of l p → get_or (children_of l p) j no_kid ≡ counted_kid l (slot_in rest j)
  pub texts : texts_of l (children_of l p) ≡ texts_of m (children_of m p)
  pub neighbours : (j : ℕ) → suc j < len_of l p → 512 < length (text_of l (slot_in (children_of l p) j)) + length (text_of l (slot_in (children_of l p) (suc j)))
  pub others : (u : ℕ) → (u ≡ p → ⊥) → among u (slots_of (children_of m p)) ≡ false → slot_of l u ≡ slot_of m u

module _ (m : List ℕ) (p : ℕ) (e : is_list m p ≡ true) (a : AllLeaves m (children_of m p)) (n : among p (slots_of (children_of m p)) ≡ false)
    (small : (i : ℕ) → i < len_of m p → Fits (get_or (children_of m p) i no_kid)) where
  abbrev ks : List Kid
  ks = children_of m p

  abbrev packs : List ℕ × List Kid
  packs = packed_all m ks

  abbrev row : NodeChildren
  row = list_of packs.1

  all : Packing m ks packs
  all = packing m ks a

  listable : Listable packs.0 p row
  listable =
      let back = kids-of ks in
      may-relist m p (list_of ks) e refl (subst (λ (x : List Kid). AllLeaves m x) (sym back) a) (ap (λ (x : List Kid). among p (slots_of x)) back ∙ n) packs.0 row
      (ap (λ (x : List Kid). (packed_all m x).0) (sym back), ap (λ (x : List Kid). list_of (packed_all m x).1) (sym back))

  fits : Fitting row.arr
  fits = list-fits packs.1 (omega (arith, part_length all.part, children-length m p e, (list-says m p e).2)) (part-each Fits all.part (λ i h. small i (omega (arith, children-length m p e))))

  -- the list with the children that are left, before they are counted
  abbrev put : List ℕ
  put = list_put packs.0 p row

  row_len : row.len ≡ length packs.1
  unfolding list_of
  row_len = refl

  end : Counting put p row (compacted_kids m p ks) row.len
  end =
      subst (λ (k : ℕ). Counting put p row (renewed_from put p 0 k) row.len) row_len
      (counting put p row row.len put 0 (record { rows = rows-put packs.0 p row listable fits; others = λ u f. refl; counted = λ j h. absurd (omega arith) }) (omega arith))

  abbrev after : List ℕ
  after = compacted_kids m p ks

  size-put : length after ≡ length packs.0
  size-put = end.rows.size ∙ put-size packs.0 p row listable

  len_after : len_of after p ≡ length packs.1
  len_after = end.rows.len ∙ row_len

  -- a slot other than the list's is as the packing left it
  stays : (u : ℕ) → (u ≡ p → ⊥) → slot_of after u ≡ slot_of packs.0 u
  stays u f = end.others u f ∙ put-others packs.0 p row listable u f

  row-slot : (j : ℕ) → j < length packs.1 → (get_or row.arr j no_kid).slot ≡ slot_in packs.1 j
  row-slot j h = ap (λ (k : Kid). k.slot) (kid-read row j (omega (arith, row_len))) ∙ ap (λ (x : List Kid). slot_in x j) (kids-of packs.1)

  child-is : (j : ℕ) → j < length packs.1 → get_or (children_of after p) j no_kid ≡ counted_kid after (slot_in packs.1 j)
  child-is j h =
      get_or-take (len_of after p) (entries (region_of after p)) j no_kid (omega (arith, len_after))
      ∙ end.counted j (omega (arith, row_len))
      ∙ ap (counted_kid after) (row-slot j h)

  slot_is : (j : ℕ) → j < length packs.1 → slot_in (children_of after p) j ≡ slot_in packs.1 j
  slot_is j h = ap (λ (k : Kid). k.slot) (child-is j h)

  child-stays : (j : ℕ) → j < length packs.1 → slot_of after (slot_in packs.1 j) ≡ slot_of packs.0 (slot_in packs.1 j)
  child-stays j h = stays (slot_in packs.1 j) (λ f. end.rows.apart j (omega (arith, row_len)) (sym f ∙ sym (row-slot j h)))

  text-is : (j : ℕ) → j < length packs.1 → text_of after (slot_in (children_of after p) j) ≡ text_of packs.0 (slot_in packs.1 j)
  text-is j h = ap (λ (s : ℕ). text_of after s) (slot_is j h) ∙ (same after packs.0 (slot_in packs.1 j) (child-stays j h) size-put).text

  slots-are : slots_of (children_of after p) ≡ slots_of packs.1
  slots-are = slots-like (children_of after p) packs.1 (children-length after p end.rows.list ∙ len_after) slot_is

  leaf-at : (j : ℕ) → j < length packs.1 → LeafText after (slot_in (children_of after p) j)
  leaf-at j h = subst (λ (s : ℕ). LeafText after s) (row-slot j h ∙ sym (slot_is j h)) (end.rows.leaves j (omega (arith, row_len)))

  -- THEOREM
  pub compact-all : Compact m p after
  compact-all = record {
    size = size-put ∙ all.size;
    list = end.rows.list;
    rest = packs.1;
    part = all.part;
    len = len_after;
    slots = slots-are;
    leaves = record {
      each = λ j h. leaf-at j (omega (arith, len_after, children-length after p end.rows.list));
      apart = ap repeats slots-are ∙ part-repeats all.part a.apart;
    };
    apart = ap (among p) slots-are ∙ part_apart p all.part n;
    counts = λ j h. child-is j (omega (arith, len_after));
    texts =
        texts-like after packs.0 (children_of after p) packs.1 size-put (children-length after p end.rows.list ∙ len_after) slot_is child-stays
        ∙ packed-texts m ks a;
    neighbours = λ j h.
        let o = over-at packs.0 packs.1 (packed-over m ks a) j (omega (arith, len_after)) in
        omega (arith, ap length (text-is j (omega (arith, len_after))), ap length (text-is (suc j) (omega (arith, len_after))));
    others = λ u f g. stays u f ∙ all.others u g;
  }

-- THEOREM: so does an accepted call on a list of two leaves and more
pub compact-accepted : (m : List ℕ) (p : ℕ) (l : List ℕ) → compacted m p ≡ value l → is_leaf m (slot_in (children_of m p) 0) ≡ true → 1 < len_of m p
    → ((i : ℕ) → i < len_of m p → Fits (get_or (children_of m p) i no_kid)) → Compact m p l
unfolding compacted
compact-accepted m p l e f h small =
    let k = subst (λ (o : Outcome (List ℕ)). Known (all_rules m p) (left m p) tt o) e (known (all_rules m p) (left m p) tt) in
    let x = all_found m p k.1 in
    let leaves = x.leaves (first_leaf m (children_of m p) (omega (arith, children-length m p x.list)) f) in
    let is : left m p ≡ compacted_kids m p (children_of m p) = rw (f, lt-ltb 1 (len_of m p) h) in
    subst (λ (z : List ℕ). Compact m p z) (sym (k.0 ∙ is)) (compact-all m p x.list leaves x.other small)

-- A list written with its leaves and each entry counted anew: one entry, and the loop of `relist`.
use Rattle.std.specs.Prelude.{Ok, Err}
use mathlib.Core.Path.{◌≡◌, refl, sym, ap, subst, ◌∙◌}
use mathlib.Core.Bool.{Bool, true, false}
use mathlib.Core.List.{List}
use Prim.Native.Nat.{ℕ, suc, ◌+◌, ◌-◌, ◌≤◌, ◌<◌}
use native.Mathlib.Omega.{arith}
use lib.Dec.{eqb}
use lib.ListN.{length, get_or, set, replicate, length-append, length-replicate}
use lib.Seq.{get_or-set_same, get_or-set_other}
use borrow.Author.Tests.{eqb-true, eqb-false}
use Rattle.plain.specs.Utf8.{valid_utf8, decode}
use Rattle.plain.specs.Place.{is_start, is_wide}
use Rattle.plain.specs.Outcome.{Outcome, Outcome.value, past, kept, mapped}
use Rattle.answer.specs.Answers.{refusal_number, Answer, outcome}
use Rattle.answer.specs.declared.Refusal.{Refusal}
use Rattle.leaf_bytes.proofs.Opened.{never}
use Rattle.text_info.specs.Info.{info_of}
use Rattle.text_info.specs.declared.TextInfo.{TextInfo}
use Rattle.text_info.proofs.Counts.{count-le, breaks-le, raw-text}
use Rattle.pool.specs.declared.Kid.{Kid}
use Rattle.pool.specs.Slot.{slot_of, len_of, region_of, entries, no_kid, Fits}
use Rattle.pool.specs.Calls.{outside, Wrote}
use Rattle.pool.proofs.Kids.{entries-length}
use Rattle.pool.proofs.Opened.{wrote-never}
use Rattle.pool.proofs.Slots.{head-same, kid-entries, kid-head, kid-others, kid-size}
use Rattle.node_children.specs.declared.NodeChildren.{NodeChildren}
use Rattle.node_children.specs.Kids.{kids, list_of}
use Rattle.node_children.proofs.Lists.{clean-length}
use Rattle.node_children.proofs.Rules.{two-passed, past-no}
use Rattle.nodes.specs.Node.{is_list, text_of, counts_of, list_put, Fitting}
use Rattle.nodes.specs.Calls.{stored, Fitted}
use Rattle.child_info.specs.Kin.{slots_of, among}
use Rattle.child_info.specs.Leaves.{LeafText, AllLeaves}
use Rattle.child_info.specs.Renewed.{slot_at, renewed}
use Rattle.child_info.specs.Calls.{updated}
use Rattle.compact.specs.Pack.{renewed_from}
use Rattle.nodes.proofs.Heads.{inside, list-says, list-is}
use Rattle.nodes.proofs.Put.{list-size, list-len, list_put_lem, list-entries, list-others}
use Rattle.child_info.proofs.TextRead.{text-size}
use Rattle.child_info.proofs.Found.{text-counted, renews, updated-renews}
use Rattle.compact.proofs.Packed.{leaf-stays}
use Rattle.compact.proofs.Loops.{kid-read}
use Rattle.compact.proofs.Parts.{slot-other}

-- ── the counts of a leaf have 32 bits ──

small-info : (s : List ℕ) → valid_utf8 s ≡ true → length s ≤ 512 → (k : ℕ) → k < 4294967296 → Fits (record { slot = k; info = info_of (decode s) })
small-info s v h k g =
    let x = count-le is_start s in
    let y = count-le is_wide s in
    let z = breaks-le s in
    subst (λ (i : TextInfo). Fits (record { slot = k; info = i })) (raw-text s v)
    (record { slot = g; bytes = omega arith; chars = omega arith; surrogates = omega arith; breaks = omega arith })

pub counts-fit : (m : List ℕ) (s : ℕ) → LeafText m s → s < 4294967296 → Fits (record { slot = s; info = counts_of m s })
unfolding counts_of
counts-fit m s t g = rw t.leaf (small-info (text_of m s) t.text (text-size m s t.leaf).1 s g)

-- ── one entry counted anew ──

pub record Renewal (m : List ℕ) (p i : ℕ) (l : List ℕ) : Type 0 where
  pub size : length l ≡ length m
  pub list : is_list l p ≡ true
  pub len : len_of l p ≡ len_of m p
  pub at : entries (region_of l p) ≡ set (entries (region_of m p)) i (record { slot = slot_at m p i; info = counts_of m (slot_at m p i) })
  pub others : (u : ℕ) → (u ≡ p → ⊥) → slot_of l u ≡ slot_of m u

pub renewal : (m : List ℕ) (p i : ℕ) → is_list m p ≡ true → i < 16 → LeafText m (slot_at m p i) → slot_at m p i < 4294967296 → Renewal m p i (renewed m p i)
renewal m p i e h t g =
    let f = list-says m p e in
    let k : Kid = record { slot = slot_at m p i; info = counts_of m (slot_at m p i) } in
    let n = kid-size m p i k f.0 h in
    let d = head-same (renewed m p i) m p (kid-head m p i k f.0 h) in
    record {
      size = n;
      list = list-is (renewed m p i) p (omega (arith, n, f.0)) (d.0 ∙ f.1) (omega (arith, d.1, f.2));
      len = d.1;
      at = kid-entries m p i k f.0 h (counts-fit m (slot_at m p i) t g);
      others = λ u x. kid-others m p i k f.0 h u x;
    }

pub slots-stay : (m : List ℕ) (p i : ℕ) (l : List ℕ) → Renewal m p i l → i < 16 → (j : ℕ) → slot_at l p j ≡ slot_at m p j
slots-stay m p i l r h j = go (eqb j i) refl
  where
    go : (t : Bool) → eqb j i ≡ t → slot_at l p j ≡ slot_at m p j
    go true e =
        let z = eqb-true j i e in
        ap (λ (es : List Kid). (get_or es j no_kid).slot) r.at
        ∙ ap (λ (n : ℕ). (get_or (set (entries (region_of m p)) i (record { slot = slot_at m p i; info = counts_of m (slot_at m p i) })) n no_kid).slot) z
        ∙ ap (λ (x : Kid). x.slot) (get_or-set_same (entries (region_of m p)) i (record { slot = slot_at m p i; info = counts_of m (slot_at m p i) }) no_kid (omega (arith, entries-length (region_of m p))))
        ∙ ap (λ (n : ℕ). slot_at m p n) (sym z)
    go false e =
        ap (λ (es : List Kid). (get_or es j no_kid).slot) r.at
        ∙ ap (λ (x : Kid). x.slot) (get_or-set_other (entries (region_of m p)) i j (record { slot = slot_at m p i; info = counts_of m (slot_at m p i) }) no_kid (eqb-false j i e))

-- ── the loop ──

pub record Rows (m₀ : List ℕ) (p : ℕ) (c : NodeChildren) (m : List ℕ) (i : ℕ) : Type 0 where
  pub high : i ≤ c.len
  pub few : c.len ≤ 16
  pub size : length m ≡ length m₀
  pub list : is_list m p ≡ true
  pub len : len_of m p ≡ c.len
  pub slots : (j : ℕ) → j < 16 → slot_at m p j ≡ (get_or c.arr j no_kid).slot
  pub small : (j : ℕ) → j < 16 → (get_or c.arr j no_kid).slot < 4294967296
  pub leaves : (j : ℕ) → j < c.len → LeafText m (get_or c.arr j no_kid).slot
  pub apart : (j : ℕ) → j < c.len → p ≡ (get_or c.arr j no_kid).slot → ⊥
  pub todo : renewed_from m p i (c.len - i) ≡ renewed_from m₀ p 0 c.len

full-array : (c : NodeChildren) → c.len ≤ 16 → c ≡ list_of (kids c) → length c.arr ≡ 16
unfolding list_of
full-array c h e =
    let n = clean-length c e in
    ap (λ (l : NodeChildren). length l.arr) e
    ∙ (omega (arith, length-append (kids c) (replicate (16 - length (kids c)) no_kid), length-replicate (16 - length (kids c)) no_kid))

fitting : (v : Answer (Unit {0})) (ks : List Kid) → outcome v ≡ value tt → Fitted v ks → Fitting ks
fitting (Ok tt) ks e f = f
fitting (Err q) ks e f = absurd (never (refusal_number q) tt e)

-- what `relist` asks for
abbrev pub Listable : List ℕ → ℕ → NodeChildren → Type 0
Listable m p c = (outside m p ≡ false) × (c.len ≤ 16) × (c ≡ list_of (kids c)) × AllLeaves m (kids c) × (among p (slots_of (kids c)) ≡ false)

module _ (m : List ℕ) (p : ℕ) (c : NodeChildren) (pre : Listable m p c) where
  apart-all : (j : ℕ) → j < c.len → p ≡ (get_or c.arr j no_kid).slot → ⊥
  apart-all j h f = slot-other (kids c) p j pre.4 (omega (arith, clean-length c pre.2)) (f ∙ ap (λ (k : Kid). k.slot) (kid-read c j h))

  pub rows-put : Fitting c.arr → Rows (list_put m p c) p c (list_put m p c) 0
  rows-put fits =
      let h = inside m p pre.0 in
      let k = pre.1 in
      let w = full-array c k pre.2 in
      let z : c.len - 0 ≡ c.len = omega arith in
      record {
        high = omega arith;
        few = k;
        size = refl;
        list = list_put_lem m p c h k w;
        len = list-len m p c h k w;
        slots = λ j g. ap (λ (es : List Kid). (get_or es j no_kid).slot) (list-entries m p c h k w fits);
        small = λ j g. (fits.each j g).slot;
        leaves = λ j g.
            leaf-stays (list_put m p c) m (get_or c.arr j no_kid).slot (list-others m p c h k w (get_or c.arr j no_kid).slot (λ f. apart-all j g (sym f))) (list-size m p c h k w)
            (subst (λ (x : Kid). LeafText m x.slot) (sym (kid-read c j g)) (pre.3.each j (omega (arith, clean-length c pre.2))));
        apart = apart-all;
        todo = ap (λ (n : ℕ). renewed_from (list_put m p c) p 0 n) z;
      }

  pub put-size : length (list_put m p c) ≡ length m
  put-size = list-size m p c (inside m p pre.0) pre.1 (full-array c pre.1 pre.2)

  pub put-others : (u : ℕ) → (u ≡ p → ⊥) → slot_of (list_put m p c) u ≡ slot_of m u
  put-others = list-others m p c (inside m p pre.0) pre.1 (full-array c pre.1 pre.2)

  module _ (v : Answer (Unit {0})) (l : List ℕ) (promise : Wrote (stored m p c) m v l × Fitted v c.arr) where
    stored_is : stored m p c ≡ value (list_put m p c)
    unfolding stored
    stored_is = two-passed 2 11 (outside m p) (past c.len 16) (list_put m p c) pre.0 (past-no c.len 16 pre.1)

    pub stored-never : {X : Type 0} (q : Refusal) → v ≡ Err q → X
    stored-never {X} q e = wrote-never (stored m p c) m v l promise.0 (list_put m p c) stored_is q e

    pub stored-memory : l ≡ list_put m p c
    stored-memory = promise.0.memory ∙ ap (λ (o : Outcome (List ℕ)). kept m o) stored_is

    pub rows_start : Rows l p c l 0
    rows_start =
        subst (λ (x : List ℕ). Rows x p c x 0) (sym stored-memory)
        (rows-put (fitting v c.arr (promise.0.answered ∙ ap (mapped (λ (t : List ℕ). tt)) stored_is) promise.1))

    pub rows-size : length l ≡ length m
    rows-size = ap length stored-memory ∙ put-size

module _ (m₀ : List ℕ) (p : ℕ) (c : NodeChildren) (m : List ℕ) (i : ℕ) (inv : Rows m₀ p c m i) where
  pub rows_end : c.len ≤ i → m ≡ renewed_from m₀ p 0 c.len
  unfolding renewed_from
  rows_end h =
      let z : c.len - i ≡ 0 = omega arith in
      sym (ap (λ (n : ℕ). renewed_from m p i n) z) ∙ inv.todo

  module _ (more : i < c.len) where
    pub fewer : i < 16
    fewer = omega (arith, inv.few)

    leaf : LeafText m (slot_at m p i)
    leaf = subst (λ (s : ℕ). LeafText m s) (sym (inv.slots i fewer)) (inv.leaves i more)

    update-is : updated m p i ≡ value (renewed m p i)
    update-is = updated-renews m p i inv.list (omega (arith, inv.len)) (renews m p i (text-counted m (slot_at m p i) leaf))

    pub update-never : {X : Type 0} (v : Answer (Unit {0})) (l : List ℕ) → Wrote (updated m p i) m v l → (q : Refusal) → v ≡ Err q → X
    update-never {X} v l promise q e = wrote-never (updated m p i) m v l promise (renewed m p i) update-is q e

    memory : (v : Answer (Unit {0})) (l : List ℕ) → Wrote (updated m p i) m v l → l ≡ renewed m p i
    memory v l promise = promise.memory ∙ ap (λ (o : Outcome (List ℕ)). kept m o) update-is

    pub done : Renewal m p i (renewed m p i)
    done = renewal m p i inv.list fewer leaf (subst (λ (s : ℕ). s < 4294967296) (sym (inv.slots i fewer)) (inv.small i fewer))

    one_less : renewed_from m p i (c.len - i) ≡ renewed_from (renewed m p i) p (i + 1) (c.len - (i + 1))
    unfolding renewed_from
    one_less = let z : c.len - i ≡ suc (c.len - (i + 1)) = omega arith in ap (λ (n : ℕ). renewed_from m p i n) z

    pub next : Rows m₀ p c (renewed m p i) (i + 1)
    next = record {
      high = omega arith;
      few = inv.few;
      size = done.size ∙ inv.size;
      list = done.list;
      len = done.len ∙ inv.len;
      slots = λ j h. slots-stay m p i (renewed m p i) done fewer j ∙ inv.slots j h;
      small = inv.small;
      leaves = λ j h. leaf-stays (renewed m p i) m (get_or c.arr j no_kid).slot (done.others (get_or c.arr j no_kid).slot (λ e. inv.apart j h (sym e))) done.size (inv.leaves j h);
      apart = inv.apart;
      todo = sym one_less ∙ inv.todo;
    }

    pub rows-turn : (v : Answer (Unit {0})) (l : List ℕ) → Wrote (updated m p i) m v l → Rows m₀ p c l (i + 1)
    rows-turn v l promise = subst (λ (x : List ℕ). Rows m₀ p c x (i + 1)) (sym (memory v l promise)) next

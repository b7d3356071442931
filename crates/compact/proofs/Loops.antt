-- The loop of `compact`: what is still to do from the child at an index on is what was to do at the start.
use Rattle.answer.specs.Answers.{Answer, outcome}
use Rattle.std.specs.Prelude.{Ok, Err}
use mathlib.Core.Path.{◌≡◌, refl, sym, ap, subst, ◌∙◌}
use mathlib.Core.Bool.{Bool, true, false, cond}
use mathlib.Core.List.{List, [], ◌∷◌, ◌++◌}
use Prim.Native.Nat.{ℕ, zero, suc, ◌+◌, ◌-◌, ◌≤◌, ◌<◌}
use native.Mathlib.Omega.{arith}
use native.Mathlib.Numerals.{add-one}
use lib.ListN.{length, take, drop, get_or, length-append, length-drop}
use lib.Seq.{length-take-le, get_or-take}
use Rattle.plain.specs.Outcome.{Outcome, Outcome.value, kept, mapped}
use Rattle.answer.specs.declared.Refusal.{Refusal}
use Rattle.answer.proofs.Opened.{never-refused}
use Rattle.pool.specs.declared.Kid.{Kid}
use Rattle.pool.specs.Slot.{slot_start, no_kid}
use Rattle.node_children.specs.declared.NodeChildren.{NodeChildren}
use Rattle.node_children.specs.Kids.{kids, list_of, Listing, Taking}
use Rattle.node_children.specs.Calls.{without, removed}
use Rattle.node_children.specs.declared.Listed.{Listed}
use Rattle.node_children.specs.declared.Taken.{Taken}
use Rattle.node_children.proofs.Rules.{removed-done}
use Rattle.node_children.proofs.Lists.{is-kids, clean-length}
use Rattle.nodes.specs.Node.{text_of}
use Rattle.child_info.specs.Kin.{slot_in}
use Rattle.child_info.specs.Leaves.{TwoLeaves, AllLeaves}
use Rattle.compact.specs.Pack.{fits, packed, packed_from, packed_all}
use Rattle.child_info.proofs.TextRead.{text-size}
use Rattle.compact.proofs.Packed.{Packs, packed_step, packed-stays}
use Rattle.compact.proofs.Parts.{without-part, part-leaves, leaves-stay, two-leaves}

-- ── over plain lists ──

-- the children before the one at j are done
abbrev pub packed_at : List ℕ → List Kid → ℕ → List ℕ × List Kid
packed_at m ks j = ((packed_from m (get_or ks j no_kid) (drop (suc j) ks)).0, take j ks ++ (packed_from m (get_or ks j no_kid) (drop (suc j) ks)).1)

at-start : (m : List ℕ) (ks : List Kid) → 0 < length ks → packed_at m ks 0 ≡ packed_all m ks
at-start m [] h = absurd (omega arith)
at-start m (k ∷ ks) h = refl

behind : Kid → List ℕ × List Kid → List ℕ × List Kid
behind k p = (p.0, k ∷ p.1)

at-fits : (m : List ℕ) (ks : List Kid) (j : ℕ) → suc j < length ks → fits (text_of m (slot_in ks j)) (text_of m (slot_in ks (suc j))) ≡ true
    → packed_at m ks j ≡ packed_at (packed m (slot_in ks j) (slot_in ks (suc j))) (take (suc j) ks ++ drop (suc (suc j)) ks) j
unfolding packed_from behind
at-fits m [] j h e = absurd (omega arith)
at-fits m (l ∷ []) zero h e = absurd (omega arith)
at-fits m (l ∷ r ∷ rs) zero h e = rw e
at-fits m (k ∷ ks) (suc j) h e = ap (behind k) (at-fits m ks j (omega arith) e)

at-not : (m : List ℕ) (ks : List Kid) (j : ℕ) → suc j < length ks → fits (text_of m (slot_in ks j)) (text_of m (slot_in ks (suc j))) ≡ false
    → packed_at m ks j ≡ packed_at (packed m (slot_in ks j) (slot_in ks (suc j))) ks (suc j)
unfolding packed_from behind
at-not m [] j h e = absurd (omega arith)
at-not m (l ∷ []) zero h e = absurd (omega arith)
at-not m (l ∷ r ∷ rs) zero h e = rw e
at-not m (k ∷ ks) (suc j) h e = ap (behind k) (at-not m ks j (omega arith) e)

at-end : (m : List ℕ) (ks : List Kid) (j : ℕ) → suc j ≡ length ks → packed_at m ks j ≡ (m, ks)
unfolding packed_from behind
at-end m [] j h = absurd (omega arith)
at-end m (l ∷ []) zero h = refl
at-end m (l ∷ r ∷ rs) zero h = absurd (omega arith)
at-end m (k ∷ ks) (suc j) h = ap (behind k) (at-end m ks j (omega arith))

-- ── a list in its array ──

pub kid-read : (c : NodeChildren) (i : ℕ) → i < c.len → get_or c.arr i no_kid ≡ get_or (kids c) i no_kid
kid-read c i h = sym (get_or-take c.len c.arr i no_kid h)

without-length : (i : ℕ) (ks : List Kid) → i < length ks → length (without i ks) + 1 ≡ length ks
without-length i ks h = omega (arith, length-append (take i ks) (drop (i + 1) ks), length-take-le i ks (omega arith), length-drop (i + 1) ks)

-- ── the loop ──

pub record Loop (m₀ : List ℕ) (ks₀ : List Kid) (m : List ℕ) (list : NodeChildren) (i : ℕ) : Type 0 where
  pub low : 0 < i
  pub high : i ≤ list.len
  pub few : list.len ≤ 16
  pub size : length m ≡ length m₀
  pub clean : list ≡ list_of (kids list)
  pub leaves : AllLeaves m (kids list)
  pub todo : packed_at m (kids list) (i - 1) ≡ packed_all m₀ ks₀

pub loop-start : (m : List ℕ) (c : NodeChildren) → AllLeaves m (kids c) → 0 < c.len → c.len ≤ 16 → c ≡ list_of (kids c) → Loop m (kids c) m c 1
loop-start m c a h k e =
    record { low = omega arith; high = omega arith; few = k; size = refl; clean = e; leaves = a; todo = at-start m (kids c) (omega (arith, clean-length c e)) }

module _ (m₀ : List ℕ) (ks₀ : List Kid) (m : List ℕ) (list : NodeChildren) (i : ℕ) (inv : Loop m₀ ks₀ m list i) where
  pub loop-end : list.len ≤ i → (m ≡ (packed_all m₀ ks₀).0) × (list ≡ list_of (packed_all m₀ ks₀).1)
  loop-end h =
      let n = clean-length list inv.clean in
      let e = sym (at-end m (kids list) (i - 1) (omega (arith, inv.low, inv.high))) ∙ inv.todo in
      (ap (λ (p : List ℕ × List Kid). p.0) e, inv.clean ∙ ap (λ (p : List ℕ × List Kid). list_of p.1) e)

  module _ (more : i < list.len) where
    abbrev ks : List Kid
    ks = kids list

    abbrev after : List ℕ
    after = packed m (slot_in ks (i - 1)) (slot_in ks i)

    abbrev fit : Bool
    fit = fits (text_of m (slot_in ks (i - 1))) (text_of m (slot_in ks i))

    long : i < length ks
    long = omega (arith, clean-length list inv.clean)

    step : Packs m (slot_in ks (i - 1)) (slot_in ks i) after
    step = packed_step m (slot_in ks (i - 1)) (slot_in ks i) (two-leaves m ks (i - 1) i inv.leaves (omega (arith, inv.low)) long)

    still : AllLeaves after ks
    still = leaves-stay after m ks (packed-stays m (slot_in ks (i - 1)) (slot_in ks i) (two-leaves m ks (i - 1) i inv.leaves (omega (arith, inv.low)) long)) inv.leaves

    -- all of it went, or some stayed
    went : fit ≡ true → packed_at m ks (i - 1) ≡ packed_at after (without i ks) (i - 1)
    went e = go (i - 1) i (omega (arith, inv.low)) long e
      where
        go : (j n : ℕ) → n ≡ suc j → n < length ks → fits (text_of m (slot_in ks j)) (text_of m (slot_in ks n)) ≡ true
            → packed_at m ks j ≡ packed_at (packed m (slot_in ks j) (slot_in ks n)) (take n ks ++ drop (n + 1) ks) j
        go j n y h e =
            let f = subst (λ (x : ℕ). fits (text_of m (slot_in ks j)) (text_of m (slot_in ks x)) ≡ true) y e in
            rw (add-one n, y) (at-fits m ks j (omega arith) f)

    stayed : fit ≡ false → packed_at m ks (i - 1) ≡ packed_at after ks (i + 1 - 1)
    stayed e = go (i - 1) i (i + 1 - 1) (omega (arith, inv.low)) (omega arith) long e
      where
        go : (j n o : ℕ) → n ≡ suc j → o ≡ n → n < length ks → fits (text_of m (slot_in ks j)) (text_of m (slot_in ks n)) ≡ false
            → packed_at m ks j ≡ packed_at (packed m (slot_in ks j) (slot_in ks n)) ks o
        go j n o y z h e =
            let f = subst (λ (x : ℕ). fits (text_of m (slot_in ks j)) (text_of m (slot_in ks x)) ≡ false) y e in
            rw (z, y) (at-not m ks j (omega arith) f)

    module _ (l : List ℕ) (r : NodeChildren) (memory : l ≡ after) where
      same_size : length l ≡ length m₀
      same_size = ap length memory ∙ step.size ∙ inv.size

      pub loop-went : r ≡ list_of (without i ks) → fit ≡ true → Loop m₀ ks₀ l r i × (r.len < list.len)
      unfolding list_of
      loop-went e f =
          let k = is-kids r (without i ks) e in
          let n : r.len ≡ length (without i ks) = ap (λ (c : NodeChildren). c.len) e in
          let o = without-length i ks long in
          let w = clean-length list inv.clean in
          let few = inv.few in
          let low = inv.low in (
            record {
              low = low;
              high = omega arith;
              few = omega arith;
              size = same_size;
              clean = e ∙ ap list_of (sym k);
              leaves = subst (λ (x : List ℕ). AllLeaves x (kids r)) (sym memory) (subst (λ (x : List Kid). AllLeaves after x) (sym k) (part-leaves after (without-part i ks) still));
              todo = ap (λ (x : List ℕ). packed_at x (kids r) (i - 1)) memory ∙ ap (λ (x : List Kid). packed_at after x (i - 1)) k ∙ sym (went f) ∙ inv.todo;
            },
            omega arith,
          )

      pub loop-stayed : r ≡ list → fit ≡ false → Loop m₀ ks₀ l r (i + 1) × (r.len ≡ list.len)
      loop-stayed e f =
          let n : r.len ≡ list.len = ap (λ (c : NodeChildren). c.len) e in
          let few = inv.few in (
            record {
              low = omega arith;
              high = omega arith;
              few = omega arith;
              size = same_size;
              clean = e ∙ inv.clean ∙ ap (λ (c : NodeChildren). list_of (kids c)) (sym e);
              leaves = subst (λ (x : List ℕ). AllLeaves x (kids r)) (sym memory) (subst (λ (c : NodeChildren). AllLeaves after (kids c)) (sym e) still);
              todo = ap (λ (x : List ℕ). packed_at x (kids r) (i + 1 - 1)) memory ∙ ap (λ (c : NodeChildren). packed_at after (kids c) (i + 1 - 1)) e ∙ sym (stayed f) ∙ inv.todo;
            },
            n,
          )

      -- a turn, by whether the list has become shorter
      pub turn-same : r ≡ cond fit (list_of (without i ks)) list → list.len ≡ r.len → Loop m₀ ks₀ l r (i + 1) × (r.len ≡ list.len)
      turn-same e d = go fit refl e
        where
          go : (t : Bool) → fit ≡ t → r ≡ cond t (list_of (without i ks)) list → Loop m₀ ks₀ l r (i + 1) × (r.len ≡ list.len)
          go true f e = absurd (omega (arith, (loop-went e f).1))
          go false f e = loop-stayed e f

      pub turn-less : r ≡ cond fit (list_of (without i ks)) list → (list.len ≡ r.len → ⊥) → Loop m₀ ks₀ l r i × (r.len < list.len)
      turn-less e d = go fit refl e
        where
          go : (t : Bool) → fit ≡ t → r ≡ cond t (list_of (without i ks)) list → Loop m₀ ks₀ l r i × (r.len < list.len)
          go true f e = loop-went e f
          go false f e = absurd (d (ap (λ (c : NodeChildren). c.len) (sym e)))

-- ── `rest` ──

module _ (list : NodeChildren) (i : ℕ) (more : i < list.len) (few : list.len ≤ 16) (r : Taken) (w : Taking (removed list i) list r) where
  removed-is : removed list i ≡ value (get_or (kids list) i no_kid, list_of (without i (kids list)))
  removed-is = removed-done list i (omega arith) more few

  pub removed-never : {X : Type 0} (q : Refusal) → r.verdict ≡ Err q → X
  removed-never {X} q e = never-refused q r.verdict tt (w.answered ∙ ap (mapped (λ x. tt)) removed-is) e

  pub removed-list : (all : Bool) → all ≡ true → r.list ≡ cond all (list_of (without i (kids list))) list
  removed-list all e =
      w.list ∙ ap (λ (o : Outcome (Kid × NodeChildren)). kept list (mapped (λ (t : Kid × NodeChildren). t.1) o)) removed-is
      ∙ ap (λ (t : Bool). cond t (list_of (without i (kids list))) list) (sym e)

pub kept-list : (list : NodeChildren) (i : ℕ) (all : Bool) → all ≡ false → list ≡ cond all (list_of (without i (kids list))) list
kept-list list i all e = ap (λ (t : Bool). cond t (list_of (without i (kids list))) list) (sym e)

-- ── `pack_at` ──

module _ (m : List ℕ) (list : NodeChildren) (i : ℕ) (leaves : AllLeaves m (kids list)) (low : 0 < i) (more : i < list.len) (few : list.len ≤ 16) (clean : list ≡ list_of (kids list)) where
  slot_read : (j : ℕ) → j < list.len → (get_or list.arr j no_kid).slot ≡ slot_in (kids list) j
  slot_read j h = ap (λ (k : Kid). k.slot) (kid-read list j h)

  pub slot-there : (j : ℕ) → j < list.len → slot_start (get_or list.arr j no_kid).slot + 640 ≤ length m
  slot-there j h =
      subst (λ (s : ℕ). slot_start s + 640 ≤ length m) (sym (slot_read j h)) (text-size m (slot_in (kids list) j) (leaves.each j (omega (arith, clean-length list clean))).leaf).2

  pub pair-leaves : TwoLeaves m (get_or list.arr (i - 1) no_kid).slot (get_or list.arr i no_kid).slot
  pair-leaves =
      rw (kid-read list (i - 1) (omega arith), kid-read list i more) (two-leaves m (kids list) (i - 1) i leaves (omega arith) (omega (arith, clean-length list clean)))

  abbrev here : Bool
  here = fits (text_of m (slot_in (kids list) (i - 1))) (text_of m (slot_in (kids list) i))

  -- from whether all was moved
  module _ (q : Bool) (l : List ℕ)
      (promise : (q ≡ fits (text_of m (get_or list.arr (i - 1) no_kid).slot) (text_of m (get_or list.arr i no_kid).slot)) × (l ≡ packed m (get_or list.arr (i - 1) no_kid).slot (get_or list.arr i no_kid).slot)) where
    moved-here : (q ≡ here) × (l ≡ packed m (slot_in (kids list) (i - 1)) (slot_in (kids list) i))
    moved-here = rw (kid-read list (i - 1) (omega arith), kid-read list i more) at promise

    pub took : q ≡ true → (r : Taken) → Taking (removed list i) list r
        → (l ≡ packed m (slot_in (kids list) (i - 1)) (slot_in (kids list) i)) × (r.list ≡ cond here (list_of (without i (kids list))) list)
    took e r w = (moved-here.1, removed-list list i more few r w here (sym moved-here.0 ∙ e))

    pub left : q ≡ false → (l ≡ packed m (slot_in (kids list) (i - 1)) (slot_in (kids list) i)) × (list ≡ cond here (list_of (without i (kids list))) list)
    left e = (moved-here.1, kept-list list i here (sym moved-here.0 ∙ e))

  -- from the answer that tells it
  module _ (z : Answer Bool) (l : List ℕ)
      (promise : (outcome z ≡ value (fits (text_of m (get_or list.arr (i - 1) no_kid).slot) (text_of m (get_or list.arr i no_kid).slot))) × (l ≡ packed m (get_or list.arr (i - 1) no_kid).slot (get_or list.arr i no_kid).slot)) where
    this-turn : (outcome z ≡ value here) × (l ≡ packed m (slot_in (kids list) (i - 1)) (slot_in (kids list) i))
    this-turn = rw (kid-read list (i - 1) (omega arith), kid-read list i more) at promise

    pub packed-at : (all : Bool) → z ≡ Ok all → (r : Listed) → Listing (value (cond all (list_of (without i (kids list))) list)) list r
        → (l ≡ packed m (slot_in (kids list) (i - 1)) (slot_in (kids list) i)) × Listing (value (cond here (list_of (without i (kids list))) list)) list r
    packed-at all e r w =
        let told : all ≡ here = let y : ◌≡◌ {A = Outcome Bool} (value all) (value here) = sym (ap outcome e) ∙ this-turn.0 in cc in
        (this-turn.1, subst (λ (t : Bool). Listing (value (cond t (list_of (without i (kids list))) list)) list r) told w)

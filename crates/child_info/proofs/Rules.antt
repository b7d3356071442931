-- From the tests of the code to the rules of `Calls`: what a list read from its slot is, and what the checks of its children come to.
use Rattle.std.specs.Prelude.{Ok, Err}
use mathlib.Core.Path.{◌≡◌, refl, sym, ap, ◌∙◌}
use mathlib.Core.Bool.{Bool, true, false, not}
use mathlib.Core.List.{List, [], ◌∷◌, ◌++◌}
use Prim.Native.Nat.{ℕ, ◌≤◌, ◌<◌}
use native.Mathlib.Omega.{arith}
use lib.Dec.{ltb}
use lib.ListN.{length, set, get_or}
use lib.Seq.{length-take-le}
use borrow.Author.Tests.{lt-ltb, le-ltb}
use Rattle.plain.specs.Outcome.{Outcome, Outcome.value, Outcome.refused, Rule, ruled, kept, mapped}
use Rattle.plain.proofs.Logic.{and_none}
use Rattle.plain.proofs.Outcome.{rule-applies}
use Rattle.answer.specs.Answers.{refusal_number, outcome}
use Rattle.answer.specs.declared.Refusal.{Refusal}
use Rattle.pool.specs.declared.Kid.{Kid}
use Rattle.pool.specs.Slot.{len_of, region_of, entries, no_kid}
use Rattle.pool.proofs.Kids.{entries-length}
use Rattle.node_children.specs.declared.NodeChildren.{NodeChildren}
use Rattle.node_children.specs.declared.Listed.{Listed}
use Rattle.node_children.specs.Kids.{kids, list_of, Listing}
use Rattle.node_children.specs.Calls.{pushed}
use Rattle.node_children.proofs.Lists.{is-kids}
use Rattle.node_children.proofs.Rules.{none-yes, none-no, two-second, two-passed, pushed-done}
use Rattle.nodes.specs.Node.{is_list, children_of}
use Rattle.nodes.specs.Calls.{loaded}
use Rattle.child_info.specs.declared.checks.Ask.TheVariants as Ask·case
use Rattle.child_info.specs.Kin.{some_of, move_rules, rises, pair_at}
use Rattle.child_info.specs.Calls.{accurate, all_rules, pair_rules}
use Rattle.nodes.proofs.Heads.{list-says}
use Rattle.nodes.proofs.Rules.{loaded-is, loaded-not}

-- ── a list read from its slot ──

pub children-length : (m : List ℕ) (p : ℕ) → is_list m p ≡ true → length (children_of m p) ≡ len_of m p
children-length m p e = length-take-le (len_of m p) (entries (region_of m p)) (omega (arith, (list-says m p e).2, entries-length (region_of m p)))

module _ (m : List ℕ) (p : ℕ) (r : Listed) (promise : Listing (loaded m p) (list_of []) r) where
  read : (t : Bool) → is_list m p ≡ t → r.verdict ≡ (Ok tt) → (is_list m p ≡ true) × (r.list ≡ list_of (children_of m p))
  read true e f = (e, promise.list ∙ ap (kept (list_of [])) (loaded-is m p e))
  read false e f =
      absurd
      (let o = loaded-not m p e in
      let v = sym (ap outcome f) ∙ promise.answered ∙ ap (mapped (λ (_ : NodeChildren). tt)) o in
      let z : ◌≡◌ {A = ℕ} 0 1 = cc in omega arith)

  -- it was a list
  pub list_read : r.verdict ≡ (Ok tt) → (is_list m p ≡ true) × (r.list ≡ list_of (children_of m p))
  list_read f = read (is_list m p) refl f

  unread : (t : Bool) (q : Refusal) → is_list m p ≡ t → r.verdict ≡ Err q → (is_list m p ≡ false) × (refusal_number q ≡ 2)
  unread true q e f =
      absurd
      (let o = loaded-is m p e in
      let v = sym (ap outcome f) ∙ promise.answered ∙ ap (mapped (λ (_ : NodeChildren). tt)) o in
      let z : ◌≡◌ {A = ℕ} 0 1 = cc in omega arith)
  unread false q e f =
      let o = loaded-not m p e in
      let v = sym (ap outcome f) ∙ promise.answered ∙ ap (mapped (λ (_ : NodeChildren). tt)) o in
      (e, (let z : refusal_number q ≡ 2 = cc in z))

  -- it was none
  pub list-unread : (q : Refusal) → r.verdict ≡ Err q → (is_list m p ≡ false) × (refusal_number q ≡ 2)
  list-unread q f = unread (is_list m p) q refl f

  -- and a call that refuses such a slot by 2 passes the refusal on
  pub unlisted : (o : Outcome (Unit {0})) → (is_list m p ≡ false → o ≡ refused 2) → (q : Refusal) → r.verdict ≡ Err q → outcome r.verdict ≡ o
  unlisted o f q e = let u = list-unread q e in ap outcome e ∙ ap (λ (n : ℕ). refused n) u.1 ∙ sym (f u.0)

pub clean-read : (c : NodeChildren) (ks : List Kid) → c ≡ list_of ks → c ≡ list_of (kids c)
clean-read c ks e = e ∙ ap list_of (sym (is-kids c ks e))

-- ── two children as a list ──

pub pushed-list : (c : NodeChildren) (ks : List Kid) (k : Kid) (r : Listed) → c ≡ list_of ks → length ks < 16 → Listing (pushed c k) c r → r.list ≡ list_of (ks ++ (k ∷ []))
unfolding list_of
pushed-list c ks k r e h p =
    let n : c.len ≡ length ks = ap (λ (l : NodeChildren). l.len) e in
    p.list ∙ ap (kept c) (pushed-done c k (omega arith)) ∙ ap (λ (l : List Kid). list_of (l ++ (k ∷ []))) (is-kids c ks e)

pub pair-pushed : (n : NodeChildren) (a b : Kid) (r q : Listed) → n ≡ list_of [] → Listing (pushed n a) n r → Listing (pushed r.list b) r.list q → q.list ≡ list_of (a ∷ b ∷ [])
pair-pushed n a b r q e f g = pushed-list r.list (a ∷ []) b q (pushed-list n [] a r e (omega arith) f) (omega arith) g

pub pair-at : (ks : List Kid) (i j : ℕ) → i < j → j < length ks → pair_at i j ks ≡ get_or ks i no_kid ∷ get_or ks j no_kid ∷ []
pair-at ks i j g h = rw (lt-ltb i j g, lt-ltb j (length ks) h)

pub pair_set : (n : NodeChildren) (a b : Kid) → n ≡ list_of [] → ◌≡◌ {A = NodeChildren} (record { len = 2; arr = set (set n.arr 0 a) 1 b }) (list_of (a ∷ b ∷ []))
unfolding list_of
pair_set n a b e = ap (λ (c : NodeChildren). record { len = 2; arr = set (set c.arr 0 a) 1 b }) e

pub pair_made : (l : NodeChildren) (ks : List Kid) (a b : Kid) (i j : ℕ) → l ≡ list_of (a ∷ b ∷ []) → a ≡ get_or ks i no_kid → b ≡ get_or ks j no_kid → i < j → j < length ks
    → l ≡ list_of (pair_at i j ks)
pair_made l ks a b i j e x y h k =
    e ∙ ap (λ (z : Kid). list_of (z ∷ b ∷ [])) x ∙ ap (λ (z : Kid). list_of (get_or ks i no_kid ∷ z ∷ [])) y ∙ ap list_of (sym (pair-at ks i j h k))

pub few-pair : (l : NodeChildren) (ks : List Kid) (i j : ℕ) → i < j → j < length ks → l ≡ list_of (pair_at i j ks) → l.len ≤ 16
unfolding list_of
few-pair l ks i j g h e = let n = ap (λ (x : NodeChildren). x.len) e ∙ ap length (pair-at ks i j g h) in omega arith

pub pair-falls : (ks : List Kid) (i j : ℕ) → j ≤ i → rises i j ks ≡ false
pair-falls ks i j h = rw (le-ltb i j h)

pub pair-past : (ks : List Kid) (i j : ℕ) → length ks ≤ j → rises i j ks ≡ false
pair-past ks i j h = rw (le-ltb j (length ks) h) (and_none (ltb i j))

-- ── whether children may be moved ──

-- a test's outcome has no value of its own
abbrev pub tested : List Rule → Outcome (Unit {0})
tested rs = ruled rs tt

module _ (m : List ℕ) (p : ℕ) where
  pub all-no : is_list m p ≡ false → tested (all_rules m p) ≡ refused 2
  unfolding ruled some_of
  all-no e = rw e

  pub pair-no : (i j : ℕ) → is_list m p ≡ false → tested (pair_rules m p i j) ≡ refused 2
  unfolding ruled some_of
  pair-no i j e = rw (e, pair-past [] i j (omega arith))

  pub accurate-no : is_list m p ≡ false → accurate m p ≡ refused 2
  unfolding accurate ruled
  accurate-no e = rw e

  module _ (list : NodeChildren) (e : is_list m p ≡ true) (is : list ≡ list_of (children_of m p)) where
    pub len_read : list.len ≡ len_of m p
    unfolding list_of
    len_read = ap (λ (l : NodeChildren). l.len) is ∙ children-length m p e

    pub few-read : list.len ≤ 16
    few-read = omega (arith, len_read, (list-says m p e).2)

    pub kids-read : kids list ≡ children_of m p
    kids-read = is-kids list (children_of m p) is

    pub all_none : list.len ≡ 0 → tested (all_rules m p) ≡ refused 12
    unfolding ruled
    all_none h = rw (e, none-yes (len_of m p) (sym len_read ∙ h))

    pub all-on : 0 < list.len → tested (move_rules m p (kids list)) ≡ tested (all_rules m p)
    all-on h = rw (kids-read, e, none-no (len_of m p) (omega (arith, len_read)))

    -- two of them
    module _ (i j : ℕ) where
      pub pair-none : list.len ≡ 0 → tested (pair_rules m p i j) ≡ refused 12
      unfolding ruled
      pair-none h = rw (e, none-yes (len_of m p) (sym len_read ∙ h))

      unrising : 0 < list.len → rises i j (children_of m p) ≡ false → tested (pair_rules m p i j) ≡ refused 3
      unfolding ruled some_of
      unrising g h = rw (e, none-no (len_of m p) (omega (arith, len_read)), h)

      pub pair-falling : 0 < list.len → j ≤ i → tested (pair_rules m p i j) ≡ refused 3
      pair-falling g h = unrising g (pair-falls (children_of m p) i j h)

      pub pair-beyond : 0 < list.len → list.len ≤ j → tested (pair_rules m p i j) ≡ refused 3
      pair-beyond g h = unrising g (pair-past (children_of m p) i j (omega (arith, len_read, children-length m p e)))

      pub pair-on : (l : NodeChildren) → i < j → j < list.len → l ≡ list_of (pair_at i j (kids list)) → tested (move_rules m p (kids l)) ≡ tested (pair_rules m p i j)
      unfolding ruled
      pair-on l g h f =
          let k : kids l ≡ pair_at i j (children_of m p) = is-kids l (pair_at i j (kids list)) f ∙ ap (pair_at i j) kids-read in
          let r : rises i j (children_of m p) ≡ true = rw (lt-ltb i j g, lt-ltb j (length (children_of m p)) (omega (arith, len_read, children-length m p e))) in
          rw (k, e, none-no (len_of m p) (omega (arith, len_read)), r)

    -- ── whether their counts are right ──

    accurate-is : accurate m p
        ≡ ruled ((2, some_of Ask·case.Lost m (kids list)) ∷ (5, some_of Ask·case.Ill m (kids list)) ∷ []) (not (some_of Ask·case.Stale m (kids list)))
    unfolding accurate
    accurate-is = rw (kids-read, e)

    pub accurate-lost : (b : Bool) → b ≡ some_of Ask·case.Lost m (kids list) → b ≡ true → accurate m p ≡ refused 2
    accurate-lost b f g = accurate-is ∙ rule-applies 2 _ _ _ (sym f ∙ g)

    module _ (a : Bool) (f : a ≡ some_of Ask·case.Lost m (kids list)) (g : a ≡ false) where
      pub accurate-ill : (b : Bool) → b ≡ some_of Ask·case.Ill m (kids list) → b ≡ true → accurate m p ≡ refused 5
      accurate-ill b h k = accurate-is ∙ two-second 2 5 _ _ _ (sym f ∙ g) (sym h ∙ k)

      pub accurate-done : (b t : Bool) → b ≡ some_of Ask·case.Ill m (kids list) → b ≡ false → t ≡ some_of Ask·case.Stale m (kids list) → accurate m p ≡ value (not t)
      accurate-done b t h k l = accurate-is ∙ two-passed 2 5 _ _ _ (sym f ∙ g) (sym h ∙ k) ∙ ap (λ (x : Bool). value (not x)) (sym l)

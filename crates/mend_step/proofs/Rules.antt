-- From the answers of the calls below to the outcomes of `Mended`: the list with a child behind another, what became of it, and two children joined.
use Rattle.std.specs.Prelude.{Ok, Err}
use mathlib.Core.Path.{◌≡◌, refl, sym, ap, subst, ◌∙◌}
use mathlib.Core.Bool.{Bool, true, false, not, cond}
use mathlib.Core.List.{List, [], ◌∷◌}
use Prim.Native.Nat.{ℕ, ◌+◌, ◌-◌, ◌≤◌, ◌<◌}
use native.Mathlib.Omega.{arith}
use lib.Dec.{leb}
use lib.ListN.{length}
use borrow.Author.Tests.{le-leb, lt-leb, leb-false, lt-ltb, le-ltb, not-false}
use Rattle.plain.specs.Outcome.{Outcome, Outcome.value, Outcome.refused, mapped}
use Rattle.plain.proofs.Outcome.{rule-applies, rule-passed, one-applies, one-passed, accepted, all-accepted}
use Rattle.answer.specs.Answers.{refusal_number, Answer, outcome}
use Rattle.answer.specs.declared.Refusal.{Refusal}
use Rattle.answer.specs.declared.Refusal.TheVariants as Refusal·case
use Rattle.leaf_bytes.proofs.Opened.{never}
use Rattle.text_info.specs.declared.TextInfo.{TextInfo}
use Rattle.pool.specs.declared.Kid.{Kid}
use Rattle.pool.specs.Slot.{slot_start, len_of}
use Rattle.pool.specs.Calls.{Wrote}
use Rattle.pool.proofs.Opened.{wrote-never}
use Rattle.node_children.specs.declared.NodeChildren.{NodeChildren}
use Rattle.node_children.specs.declared.Listed.{Listed}
use Rattle.node_children.specs.Kids.{kids, list_of, Listing}
use Rattle.node_children.proofs.Lists.{is-kids}
use Rattle.nodes.specs.Node.{is_list, children_of}
use Rattle.nodes.specs.Calls.{loaded}
use Rattle.nodes.proofs.Heads.{list-says}
use Rattle.nodes.proofs.Rules.{loaded-is, loaded-not}
use Rattle.child_info.specs.Kin.{slot_in}
use Rattle.merge.specs.Join.{Joined}
use Rattle.merge.specs.Merge.{merging}
use Rattle.merge.proofs.Merged.{merging-there}
use Rattle.edit_steps.specs.declared.Edit.{Edit}
use Rattle.edit_steps.specs.Made.{Made, Made.same, Made.small, edit, sized, Stepped}
use Rattle.free_slots.specs.Slots.{given, given_memory}
use Rattle.free_slots.proofs.Rules.{given-it}
use Rattle.list_step.specs.Steps.{and_then}
use Rattle.list_step.proofs.Rules.{load-opened, children-few, list-len}
use Rattle.mend_step.specs.Mended.{paired, closed, joining, mended}

-- ── the list ──

module _ (m : List ℕ) (p i : ℕ) where
  abbrev found : NodeChildren
  found = list_of (children_of m p)

  paired_none : is_list m p ≡ false → paired m p i ≡ refused 2
  unfolding paired
  paired_none e = rule-applies 2 (not (is_list m p)) ((3, leb (len_of m p) (i + 1)) ∷ []) found (ap not e)

  paired-past : is_list m p ≡ true → len_of m p ≤ i + 1 → paired m p i ≡ refused 3
  unfolding paired
  paired-past e h =
      rule-passed 2 (not (is_list m p)) ((3, leb (len_of m p) (i + 1)) ∷ []) found (ap not e)
      ∙ one-applies 3 (leb (len_of m p) (i + 1)) found (le-leb (len_of m p) (i + 1) h)

  pub paired_is : is_list m p ≡ true → i + 1 < len_of m p → paired m p i ≡ value found
  unfolding paired
  paired_is e h =
      rule-passed 2 (not (is_list m p)) ((3, leb (len_of m p) (i + 1)) ∷ []) found (ap not e)
      ∙ one-passed 3 (leb (len_of m p) (i + 1)) found (lt-leb (len_of m p) (i + 1) h)

  pub paired-only : (c : NodeChildren) → paired m p i ≡ value c → (is_list m p ≡ true) × (i + 1 < len_of m p) × (c ≡ found)
  unfolding paired
  paired-only c e =
      let a = accepted 2 (not (is_list m p)) ((3, leb (len_of m p) (i + 1)) ∷ []) found c e in
      let b = accepted 3 (leb (len_of m p) (i + 1)) [] found c a.1 in
      (not-false _ a.0, leb-false (len_of m p) (i + 1) b.0, sym (all-accepted found c b.1))

  pub load-refused : (q : Refusal) (r : Listed) → Listing (loaded m p) (list_of []) r → r.verdict ≡ Err q → Listing (paired m p i) (list_of []) r
  load-refused q r w e = go (is_list m p) refl
    where
      go : (b : Bool) → is_list m p ≡ b → Listing (paired m p i) (list_of []) r
      go true z = absurd (never (refusal_number q) tt (sym (ap outcome e) ∙ w.answered ∙ ap (mapped (λ x. tt)) (loaded-is m p z)))
      go false z = subst (λ (o : Outcome NodeChildren). Listing o (list_of []) r) (loaded-not m p z ∙ sym (paired_none z)) w

  -- an answer of `load`
  module _ (r : Listed) (w : Listing (loaded m p) (list_of []) r) (e : r.verdict ≡ (Ok tt)) where
    is-list : is_list m p ≡ true
    is-list = (load-opened m p r w e).0

    len_is : r.list.len ≡ len_of m p
    len_is = ap (λ (x : NodeChildren). x.len) (load-opened m p r w e).1 ∙ list-len (children_of m p) ∙ children-few m p is-list

    pub none-behind : (none : NodeChildren) → r.list.len ≤ i + 1 → none ≡ list_of []
        → Listing (paired m p i) (list_of []) (record { verdict = Err Refusal·case.Place; list = none })
    none-behind none h f =
        subst (λ (o : Outcome NodeChildren). Listing o (list_of []) (record { verdict = Err Refusal·case.Place; list = none }))
        (sym (paired-past is-list (omega (arith, len_is)))) (record { answered = refl; list = f })

    pub one-behind : i + 1 < r.list.len → Listing (paired m p i) (list_of []) r
    one-behind h = subst (λ (o : Outcome NodeChildren). Listing o (list_of []) r) (loaded-is m p is-list ∙ sym (paired_is is-list (omega (arith, len_is)))) w

  -- an answer of `paired`
  module _ (r : Listed) (w : Listing (paired m p i) (list_of []) r) where
    pub pair-refused : (q : Refusal) → r.verdict ≡ Err q → paired m p i ≡ refused (refusal_number q)
    pair-refused q e = go (paired m p i) refl w
      where
        go : (o : Outcome NodeChildren) → paired m p i ≡ o → Listing o (list_of []) r → paired m p i ≡ refused (refusal_number q)
        go (value c) z v = absurd (never (refusal_number q) tt (sym (ap outcome e) ∙ v.answered))
        go (refused n) z v =
            let y : ◌≡◌ {A = Outcome (Unit {0})} (refused (refusal_number q)) (refused n) = sym (ap outcome e) ∙ v.answered in
            let x : refusal_number q ≡ n = cc in
            z ∙ ap (λ (k : ℕ). refused k) (sym x)

    pub pair-value : r.verdict ≡ (Ok tt) → paired m p i ≡ value r.list
    pair-value e = go (paired m p i) refl w
      where
        go : (o : Outcome NodeChildren) → paired m p i ≡ o → Listing o (list_of []) r → paired m p i ≡ value r.list
        go (value c) z v = z ∙ ap (λ (x : NodeChildren). value x) (sym v.list)
        go (refused n) z v = absurd (never n tt (sym v.answered ∙ ap outcome e))

    pub pair-ready : r.verdict ≡ (Ok tt) → (i + 1 < r.list.len) × (r.list.len ≤ 16) × (r.list ≡ list_of (children_of m p))
    pair-ready e =
        let o = paired-only r.list (pair-value e) in
        let z : r.list.len ≡ len_of m p = ap (λ (x : NodeChildren). x.len) o.2 ∙ list-len (children_of m p) ∙ children-few m p o.0 in
        (omega (arith, o.1), omega (arith, (list-says m p o.0).2), o.2)

  -- the call, by what `paired` comes to
  pub mended-by : (info : TextInfo) (o : Outcome NodeChildren) → paired m p i ≡ o → mended m p i info ≡ and_then o (λ c. joining m p c i info)
  unfolding mended
  mended-by info o e = ap (λ (x : Outcome NodeChildren). and_then x (λ c. joining m p c i info)) e

-- ── what became of it ──

module _ (n : ℕ) (info : TextInfo) where
  pub few : n < 4 → value (small info) ≡ value (sized 4 n info)
  few h = ap (λ (b : Bool). value (cond b (small info) (same info))) (sym (lt-ltb n 4 h))

  pub enough : 4 ≤ n → value (same info) ≡ value (sized 4 n info)
  enough h = ap (λ (b : Bool). value (cond b (small info) (same info))) (sym (le-ltb n 4 h))

-- a slot of the memory that 32 bits name is given back
module _ (m : List ℕ) (b : ℕ) (named : b < 4294967296) (there : slot_start b + 640 ≤ length m) (v : Answer (Unit {0})) (after : List ℕ) (w : Wrote (given m b) m v after) where
  pub given-never : {X : Type 0} (q : Refusal) → v ≡ Err q → X
  given-never {X} q e = wrote-never (given m b) m v after w (given_memory m b) (given-it m b named there) q e

module _ (m : List ℕ) (merged : Bool) (b n : ℕ) (info : TextInfo) (r : Answer Edit) (after : List ℕ) where
  pub closed-merged : merged ≡ true → (v : Answer (Unit {0})) → Wrote (given m b) m v after → edit r ≡ value (sized 4 (n - 1) info)
      → Stepped (value (closed m merged b n info)) m r after
  closed-merged e v w f = subst (λ (x : Bool). Stepped (value (closed m x b n info)) m r after) (sym e) (record { answered = f; memory = w.memory })

  pub closed-shared : merged ≡ false → after ≡ m → edit r ≡ value (sized 4 n info) → Stepped (value (closed m merged b n info)) m r after
  closed-shared e g f = subst (λ (x : Bool). Stepped (value (closed m x b n info)) m r after) (sym e) (record { answered = f; memory = g })

-- ── two children joined ──

module _ (m : List ℕ) (p : ℕ) (c : NodeChildren) (i : ℕ) (info : TextInfo) where
  abbrev second : ℕ
  second = slot_in (kids c) (i + 1)

  abbrev end : Bool × List ℕ → Made × List ℕ
  end t = closed t.1 t.0 second c.len info

  joining-by : (o : Outcome (Bool × List ℕ)) → merging m p i (i + 1) ≡ o → joining m p c i info ≡ mapped end o
  unfolding joining
  joining-by o e = ap (mapped end) e

  module _ (r : Answer Bool) (mid : List ℕ) (w : Joined (merging m p i (i + 1)) m r mid) where
    pub join-refused : (q : Refusal) → r ≡ Err q → (joining m p c i info ≡ refused (refusal_number q)) × (mid ≡ m)
    join-refused q e = go (merging m p i (i + 1)) refl w
      where
        go : (o : Outcome (Bool × List ℕ)) → merging m p i (i + 1) ≡ o → Joined o m r mid → (joining m p c i info ≡ refused (refusal_number q)) × (mid ≡ m)
        go (value t) z v = absurd (never (refusal_number q) t.0 (sym (ap outcome e) ∙ v.answered))
        go (refused n) z v =
            let y : ◌≡◌ {A = Outcome Bool} (refused (refusal_number q)) (refused n) = sym (ap outcome e) ∙ v.answered in
            let x : refusal_number q ≡ n = cc in
            (joining-by (refused n) z ∙ ap (λ (k : ℕ). refused k) (sym x), v.memory)

    -- the second child's slot then lies in the memory
    pub join-there : (merged : Bool) → r ≡ Ok merged → c ≡ list_of (children_of m p) → (b : ℕ) → b ≡ second → length mid ≡ length m
        → slot_start b + 640 ≤ length mid
    join-there merged e f b g n = omega (arith, go (merging m p i (i + 1)) refl w)
      where
        here : b ≡ slot_in (children_of m p) (i + 1)
        here = g ∙ ap (λ (ks : List Kid). slot_in ks (i + 1)) (is-kids c (children_of m p) f)

        go : (o : Outcome (Bool × List ℕ)) → merging m p i (i + 1) ≡ o → Joined o m r mid → slot_start b + 640 ≤ length m
        go (value t) z v = subst (λ (s : ℕ). slot_start s + 640 ≤ length m) (sym here) (merging-there m p i (i + 1) t z)
        go (refused k) z v = absurd (never k merged (sym v.answered ∙ ap outcome e))

    pub join-value : (merged : Bool) → r ≡ Ok merged → joining m p c i info ≡ value (end (merged, mid))
    join-value merged e = go (merging m p i (i + 1)) refl w
      where
        go : (o : Outcome (Bool × List ℕ)) → merging m p i (i + 1) ≡ o → Joined o m r mid → joining m p c i info ≡ value (end (merged, mid))
        go (value t) z v =
            let y : ◌≡◌ {A = Outcome Bool} (value merged) (value t.0) = sym (ap outcome e) ∙ v.answered in
            let x : merged ≡ t.0 = cc in
            joining-by (value t) z
            ∙ ap (λ (a : Bool). value (closed t.1 a second c.len info)) (sym x)
            ∙ ap (λ (l : List ℕ). value (closed l merged second c.len info)) (sym v.memory)
        go (refused n) z v = absurd (never n merged (sym v.answered ∙ ap outcome e))

    pub join-done : (merged : Bool) → r ≡ Ok merged → (b : ℕ) → b ≡ second → (a : Answer Edit) (after : List ℕ)
        → Stepped (value (closed mid merged b c.len info)) mid a after → Stepped (joining m p c i info) m a after
    join-done merged e b f a after s =
        subst (λ (o : Outcome (Made × List ℕ)). Stepped o m a after)
        (ap (λ (x : ℕ). value (closed mid merged x c.len info)) f ∙ sym (join-value merged e))
        (record { answered = s.answered; memory = s.memory })

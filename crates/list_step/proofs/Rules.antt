-- From the answers of the calls below to the outcomes of `Steps`: a step answered, and the children of the list with one counted anew.
use Rattle.std.specs.Prelude.{Ok, Err}
use mathlib.Core.Path.{◌≡◌, refl, sym, ap, subst, ◌∙◌}
use mathlib.Core.Bool.{Bool, true, false, not}
use mathlib.Core.List.{List, [], ◌∷◌, ◌++◌}
use Prim.Native.Nat.{ℕ, ◌+◌, ◌-◌, ◌≤◌, ◌<◌}
use native.Mathlib.Omega.{arith}
use native.Mathlib.Numerals.{add-one}
use lib.Dec.{leb}
use lib.ListN.{length, take, drop, set, get_or, replicate, length-append, length-drop}
use lib.Seq.{length-take-le, get_or-take, set-append_left, set_split}
use borrow.Author.Tests.{le-leb, lt-leb, leb-false, not-false}
use Rattle.plain.specs.Outcome.{Outcome, Outcome.value, Outcome.refused, kept, mapped}
use Rattle.plain.proofs.Outcome.{rule-applies, rule-passed, one-applies, one-passed, accepted, all-accepted}
use Rattle.answer.specs.Answers.{refusal_number, outcome, Answer}
use Rattle.answer.specs.declared.Refusal.{Refusal}
use Rattle.answer.specs.declared.Refusal.TheVariants as Refusal·case
use Rattle.leaf_bytes.proofs.Opened.{never}
use Rattle.text_info.specs.declared.TextInfo.{TextInfo}
use Rattle.pool.specs.declared.Kid.{Kid}
use Rattle.pool.specs.Slot.{len_of, region_of, entries, no_kid}
use Rattle.pool.specs.Calls.{outside}
use Rattle.pool.proofs.Kids.{entries-length}
use Rattle.node_children.specs.declared.NodeChildren.{NodeChildren}
use Rattle.node_children.specs.declared.Listed.{Listed}
use Rattle.node_children.specs.Kids.{kids, list_of, Listing}
use Rattle.node_children.proofs.Lists.{is-kids, clean-length}
use Rattle.nodes.specs.Node.{is_list, children_of}
use Rattle.nodes.specs.Calls.{loaded}
use Rattle.nodes.proofs.Heads.{not-outside, list-says}
use Rattle.nodes.proofs.Rules.{loaded-is, loaded-not}
use Rattle.edit_steps.specs.declared.Edit.{Edit}
use Rattle.edit_steps.specs.Made.{Made, edit, Stepped}
use Rattle.edit_steps.specs.Grown.{kid}
use Rattle.list_step.specs.Steps.{recount, recounted}

-- ── a step ──

module _ (o : Outcome (Made × List ℕ)) (m : List ℕ) where
  pub step-done : (made : Made) (later after : List ℕ) (r : Answer Edit) → o ≡ value (made, later) → edit r ≡ value made → after ≡ later → Stepped o m r after
  step-done made later after r e f g = subst (λ (p : Outcome (Made × List ℕ)). Stepped p m r after) (sym e) (record { answered = f; memory = g })

  pub step-refused : (q : Refusal) (after : List ℕ) → o ≡ refused (refusal_number q) → after ≡ m → Stepped o m (Err q) after
  step-refused q after e g = subst (λ (p : Outcome (Made × List ℕ)). Stepped p m (Err q) after) (sym e) (record { answered = refl; memory = g })

  pub step-as : (p : Outcome (Made × List ℕ)) (r : Answer Edit) (after : List ℕ) → o ≡ p → Stepped p m r after → Stepped o m r after
  step-as p r after e s = subst (λ (x : Outcome (Made × List ℕ)). Stepped x m r after) (sym e) s

-- ── the children ──

module _ (ks : List Kid) (i : ℕ) (h : i < length ks) where
  front : length (take i ks) ≡ i
  front = length-take-le i ks (omega arith)

  pub recount-length : (info : TextInfo) → length (recount i info ks) ≡ length ks
  recount-length info = length-append (take i ks) (kid (get_or ks i no_kid).slot info ∷ drop (i + 1) ks) ∙ omega (arith, front, length-drop (i + 1) ks)

pub list-len : (ks : List Kid) → (list_of ks).len ≡ length ks
unfolding list_of
list-len ks = refl

pub recount-is : (c : NodeChildren) (i : ℕ) (info : TextInfo) → i < c.len → c ≡ list_of (kids c)
    → ◌≡◌ {A = NodeChildren} (record { len = c.len; arr = set c.arr i (kid (get_or c.arr i no_kid).slot info) }) (list_of (recount i info (kids c)))
unfolding list_of
recount-is c i info h e =
    let ks = kids c in
    let n : length ks ≡ c.len = clean-length c e in
    let k = kid (get_or c.arr i no_kid).slot info in
    let back = replicate (16 - length ks) no_kid in
    let l : length (recount i info ks) ≡ length ks = recount-length ks i (omega arith) info in
    let new : set ks i k ≡ recount i info ks =
    set_split ks i k (omega arith)
    ∙ ap (λ (j : ℕ). take i ks ++ (k ∷ drop j ks)) (sym (add-one i))
    ∙ ap (λ (x : Kid). take i ks ++ (kid x.slot info ∷ drop (i + 1) ks)) (sym (get_or-take c.len c.arr i no_kid h)) in
    let all : set c.arr i k ≡ recount i info ks ++ back =
    ap (λ (x : NodeChildren). set x.arr i k) e ∙ set-append_left ks back i k (omega arith) ∙ ap (λ (x : List Kid). x ++ back) new in
    rw (all, l) (ap (λ (j : ℕ). record { len = j; arr = recount i info ks ++ back }) (sym n))

-- ── of the list in a slot ──

module _ (m : List ℕ) (p : ℕ) where
  pub load-opened : (r : Listed) → Listing (loaded m p) (list_of []) r → r.verdict ≡ (Ok tt) → (is_list m p ≡ true) × (r.list ≡ list_of (children_of m p))
  load-opened r w e = go (is_list m p) refl
    where
      go : (b : Bool) → is_list m p ≡ b → (is_list m p ≡ true) × (r.list ≡ list_of (children_of m p))
      go true z = (z, w.list ∙ ap (kept (list_of [])) (loaded-is m p z))
      go false z = absurd (never 2 tt (sym (w.answered ∙ ap (mapped (λ x. tt)) (loaded-not m p z)) ∙ ap outcome e))

  pub children-few : is_list m p ≡ true → length (children_of m p) ≡ len_of m p
  children-few e = length-take-le (len_of m p) (entries (region_of m p)) (omega (arith, (list-says m p e).2, entries-length (region_of m p)))

  module _ (i : ℕ) (info : TextInfo) where
    abbrev new : NodeChildren
    new = list_of (recount i info (children_of m p))

    recounted-none : is_list m p ≡ false → recounted m p i info ≡ refused 2
    unfolding recounted
    recounted-none e = rule-applies 2 (not (is_list m p)) ((3, leb (len_of m p) i) ∷ []) new (ap not e)

    recounted-past : is_list m p ≡ true → len_of m p ≤ i → recounted m p i info ≡ refused 3
    unfolding recounted
    recounted-past e h = rule-passed 2 (not (is_list m p)) ((3, leb (len_of m p) i) ∷ []) new (ap not e) ∙ one-applies 3 (leb (len_of m p) i) new (le-leb (len_of m p) i h)

    pub recounted-is : is_list m p ≡ true → i < len_of m p → recounted m p i info ≡ value new
    unfolding recounted
    recounted-is e h = rule-passed 2 (not (is_list m p)) ((3, leb (len_of m p) i) ∷ []) new (ap not e) ∙ one-passed 3 (leb (len_of m p) i) new (lt-leb (len_of m p) i h)

    pub recounted-only : (c : NodeChildren) → recounted m p i info ≡ value c → (is_list m p ≡ true) × (i < len_of m p) × (c ≡ new)
    unfolding recounted
    recounted-only c e =
        let a = accepted 2 (not (is_list m p)) ((3, leb (len_of m p) i) ∷ []) new c e in
        let b = accepted 3 (leb (len_of m p) i) [] new c a.1 in
        (not-false _ a.0, leb-false (len_of m p) i b.0, sym (all-accepted new c b.1))

    pub load-refused : (q : Refusal) (r : Listed) → Listing (loaded m p) (list_of []) r → r.verdict ≡ Err q → Listing (recounted m p i info) (list_of []) r
    load-refused q r w e = go (is_list m p) refl
      where
        go : (b : Bool) → is_list m p ≡ b → Listing (recounted m p i info) (list_of []) r
        go true z = absurd (never (refusal_number q) tt (sym (ap outcome e) ∙ w.answered ∙ ap (mapped (λ x. tt)) (loaded-is m p z)))
        go false z = subst (λ (o : Outcome NodeChildren). Listing o (list_of []) r) (loaded-not m p z ∙ sym (recounted-none z)) w

    module _ (r : Listed) (w : Listing (loaded m p) (list_of []) r) (e : r.verdict ≡ (Ok tt)) where
      len_is : r.list.len ≡ len_of m p
      len_is = let o = load-opened r w e in ap (λ (x : NodeChildren). x.len) o.1 ∙ list-len (children_of m p) ∙ children-few o.0

      pub recount-past : (none : NodeChildren) → r.list.len ≤ i → none ≡ list_of []
          → Listing (recounted m p i info) (list_of []) (record { verdict = Err Refusal·case.Place; list = none })
      recount-past none h f =
          subst (λ (o : Outcome NodeChildren). Listing o (list_of []) (record { verdict = Err Refusal·case.Place; list = none }))
          (sym (recounted-past (load-opened r w e).0 (omega (arith, len_is)))) (record { answered = refl; list = f })

      pub recount-ready : (r.list.len ≤ 16) × (r.list ≡ list_of (kids r.list))
      recount-ready =
          let o = load-opened r w e in
          (omega (arith, len_is, (list-says m p o.0).2), o.1 ∙ ap list_of (sym (is-kids r.list (children_of m p) o.1)))

      pub recount-done : (c : NodeChildren) → i < r.list.len → c ≡ list_of (recount i info (kids r.list))
          → Listing (recounted m p i info) (list_of []) (record { verdict = (Ok tt); list = c })
      recount-done c h f =
          let o = load-opened r w e in
          subst (λ (x : Outcome NodeChildren). Listing x (list_of []) (record { verdict = (Ok tt); list = c }))
          (sym (recounted-is o.0 (omega (arith, len_is))))
          (record { answered = refl; list = f ∙ ap (λ (x : List Kid). list_of (recount i info x)) (is-kids r.list (children_of m p) o.1) })

    -- an answer of `recounted`
    module _ (r : Listed) (w : Listing (recounted m p i info) (list_of []) r) where
      pub family-refused : (q : Refusal) → r.verdict ≡ Err q → recounted m p i info ≡ refused (refusal_number q)
      family-refused q e = go (recounted m p i info) refl w
        where
          go : (o : Outcome NodeChildren) → recounted m p i info ≡ o → Listing o (list_of []) r → recounted m p i info ≡ refused (refusal_number q)
          go (value c) z v = absurd (never (refusal_number q) tt (sym (ap outcome e) ∙ v.answered))
          go (refused n) z v =
              let y : ◌≡◌ {A = Outcome (Unit {0})} (refused (refusal_number q)) (refused n) = sym (ap outcome e) ∙ v.answered in
              let x : refusal_number q ≡ n = cc in
              z ∙ ap (λ (k : ℕ). refused k) (sym x)

      pub family-value : r.verdict ≡ (Ok tt) → recounted m p i info ≡ value r.list
      family-value e = go (recounted m p i info) refl w
        where
          go : (o : Outcome NodeChildren) → recounted m p i info ≡ o → Listing o (list_of []) r → recounted m p i info ≡ value r.list
          go (value c) z v = z ∙ ap (λ (x : NodeChildren). value x) (sym v.list)
          go (refused n) z v = absurd (never n tt (sym v.answered ∙ ap outcome e))

      -- the slot is there, and the list has the child and at most sixteen
      pub family-ready : r.verdict ≡ (Ok tt) → (outside m p ≡ false) × (i + 1 ≤ r.list.len) × (r.list.len ≤ 16)
      family-ready e =
          let o = recounted-only r.list (family-value e) in
          let s = list-says m p o.0 in
          let n = children-few o.0 in
          let z : r.list.len ≡ len_of m p =
          ap (λ (x : NodeChildren). x.len) o.2 ∙ list-len (recount i info (children_of m p)) ∙ recount-length (children_of m p) i (omega arith) info ∙ n in
          (not-outside m p s.0, omega (arith, o.1), omega (arith, s.2))

-- One entry of a list written: what `put_one` comes to when the tests of the code have been passed or not, and the children that the list then has.
use Rattle.std.specs.Prelude.{Ok, Err}
use mathlib.Core.Path.{◌≡◌, sym, ap, subst, ◌∙◌}
use mathlib.Core.Bool.{Bool, true, false, not, cond}
use mathlib.Core.List.{List, [], ◌∷◌, ◌++◌}
use Prim.Native.Nat.{ℕ, ◌+◌, ◌≤◌, ◌<◌}
use native.Mathlib.Omega.{arith}
use native.Mathlib.Numerals.{add-one}
use lib.Dec.{leb}
use lib.ListN.{length, take, drop, get_or, set}
use lib.Seq.{get_or-take, get_or-set_same, set_split}
use borrow.Author.Tests.{le-leb, lt-leb, lt-ltb, le-ltb}
use Rattle.plain.specs.Outcome.{Outcome, Outcome.value, Outcome.refused, ruled, past, kept}
use Rattle.plain.proofs.Outcome.{rule-applies, rule-passed, one-applies, one-passed, accepted, all-accepted}
use Rattle.answer.specs.Answers.{refusal_number, Answer, outcome}
use Rattle.answer.specs.declared.Refusal.{Refusal}
use Rattle.text_info.specs.declared.TextInfo.{TextInfo}
use Rattle.text_info.specs.declared.TextSum.{TextSum}
use Rattle.text_info.specs.Info.{Summed}
use Rattle.pool.specs.declared.Kid.{Kid}
use Rattle.pool.specs.Slot.{len_of, region_of, entries, no_kid, Fits, kid_put}
use Rattle.pool.specs.Calls.{outside, no_entry, info_of, kid_set, info_set, Wrote}
use Rattle.pool.proofs.Opened.{info-opened, info-there, wrote-never}
use Rattle.child_search.specs.Sought.{sum_from, Within, Plus}
use Rattle.child_search.proofs.Sums.{plus-exact, within-plus, within_more, sum-turn, sum-end}
use Rattle.nodes.specs.Node.{is_list, children_of, too_wide, narrowed, total_of}
use Rattle.nodes.proofs.Heads.{not-outside, list-says, one-refused}
use Rattle.edit_steps.specs.declared.Edit.TheVariants as Edit·case
use Rattle.edit_steps.specs.Made.{Made, Made.same, Made.small, sized, Stepped}
use Rattle.edit_steps.specs.Grown.{kid}
use Rattle.list_step.specs.Steps.{recount, one_put}
use Rattle.list_step.proofs.Rules.{step-done, step-refused, recount-length, children-few}
use Rattle.list_step.proofs.Family.{counts_of}
use Rattle.list_step.proofs.Laid.{Laid, kid-laid}
use Rattle.list_step.proofs.Exchanged.{exchanged-sum}

-- ── the counts of the children read where they lie ──

module _ (m : List ℕ) (p : ℕ) where
  -- the loop that adds the counts up, at the j-th child: s are the sums on its left
  abbrev pub Added : ℕ → TextSum → Type 0
  Added j s = Within s j × (sum_from s (drop j (children_of m p)) ≡ total_of (children_of m p))

  module _ (e : is_list m p ≡ true) where
    pub counts-read : (j : ℕ) (t : TextInfo) → j < len_of m p → (r : Answer TextInfo) → outcome r ≡ info_of m p j → r ≡ Ok t → t ≡ (get_or (children_of m p) j no_kid).info
    counts-read j t l r w z =
        let s = list-says m p e in
        info-opened m p j s.0 (omega (arith, s.2)) r w t z
        ∙ ap (λ (x : Kid). x.info) (sym (get_or-take (len_of m p) (entries (region_of m p)) j no_kid l))

    pub counts-there : {X : Type 0} (j : ℕ) (q : Refusal) → j < len_of m p → (r : Answer TextInfo) → outcome r ≡ info_of m p j → r ≡ Err q → X
    counts-there j q l r w z = let s = list-says m p e in absurd (info-there m p j s.0 (omega (arith, s.2)) r w q z)

    pub added-one : (j : ℕ) (s : TextSum) (t : TextInfo) (r : TextSum) → j < len_of m p → Added j s → t ≡ (get_or (children_of m p) j no_kid).info
        → t.bytes ≤ 4294967295 → t.chars ≤ 4294967295 → t.utf16_surrogates ≤ 4294967295 → t.line_breaks ≤ 4294967295 → Summed s t r → Added (j + 1) r
    added-one j s t r l a z b c u v w =
        let x : Plus s t r = plus-exact s t r (within_more s j 16 (omega (arith, (list-says m p e).2)) a.0) b c u v w in
        (within-plus s t r j a.0 x, sum-turn (children_of m p) j s t r (omega (arith, children-few m p e)) z x ∙ a.1)

module _ (m : List ℕ) (p i : ℕ) (new : TextInfo) where
  abbrev ks : List Kid
  ks = children_of m p

  -- the entry written, and the children with it
  abbrev own : Kid
  own = kid (get_or ks i no_kid).slot new

  abbrev anew : List Kid
  anew = recount i new ks

  abbrev done : Made × List ℕ
  done = (sized 4 (len_of m p) (counts_of anew), kid_put m p i own)

  -- ── the tests ──

  pub one-not : is_list m p ≡ false → one_put m p i new ≡ refused 2
  unfolding one_put
  one-not e = rule-applies 2 (not (is_list m p)) ((3, leb (len_of m p) i) ∷ (2, too_wide (total_of anew)) ∷ []) done (ap not e)

  pub one-past : is_list m p ≡ true → len_of m p ≤ i → one_put m p i new ≡ refused 3
  unfolding one_put
  one-past e h =
      rule-passed 2 (not (is_list m p)) ((3, leb (len_of m p) i) ∷ (2, too_wide (total_of anew)) ∷ []) done (ap not e)
      ∙ rule-applies 3 (leb (len_of m p) i) ((2, too_wide (total_of anew)) ∷ []) done (le-leb (len_of m p) i h)

  module _ (e : is_list m p ≡ true) (h : i < len_of m p) where
    one-there : one_put m p i new ≡ ruled ((2, too_wide (total_of anew)) ∷ []) done
    unfolding one_put
    one-there =
        rule-passed 2 (not (is_list m p)) ((3, leb (len_of m p) i) ∷ (2, too_wide (total_of anew)) ∷ []) done (ap not e)
        ∙ rule-passed 3 (leb (len_of m p) i) ((2, too_wide (total_of anew)) ∷ []) done (lt-leb (len_of m p) i h)

    within : i < length ks
    within = omega (arith, children-few m p e)

    many : length anew ≡ len_of m p
    many = recount-length ks i within new ∙ children-few m p e

    as-set : set ks i own ≡ anew
    as-set = set_split ks i own within ∙ ap (λ (j : ℕ). take i ks ++ (own ∷ drop j ks)) (sym (add-one i))

    own_at : get_or anew i no_kid ≡ own
    own_at = ap (λ (l : List Kid). get_or l i no_kid) (sym as-set) ∙ get_or-set_same ks i own no_kid within

    -- THEOREM: the step, where the counts of the children fit 32 bits
    pub one-is : too_wide (total_of anew) ≡ false → one_put m p i new ≡ value (sized 4 (length anew) (counts_of anew), kid_put m p i own)
    one-is w = one-there ∙ one-passed 2 (too_wide (total_of anew)) done w ∙ ap (λ (j : ℕ). value (sized 4 j (counts_of anew), kid_put m p i own)) (sym many)

    -- ── the code ──

    -- all of them added: the child's own counts taken off, and the new ones added
    pub added-all : (j : ℕ) (s : TextSum) → j ≡ len_of m p → Added m p j s → (old : TextInfo) (r q : TextSum) → old ≡ (get_or ks i no_kid).info
        → new.bytes ≤ 4294967295 → new.chars ≤ 4294967295 → new.utf16_surrogates ≤ 4294967295 → new.line_breaks ≤ 4294967295
        → Summed r old s → Summed r new q → q ≡ total_of anew
    added-all j s l a old r q z b c u v x y =
        let few = (list-says m p e).2 in
        let total : s ≡ total_of ks = sum-end ks j s (omega (arith, children-few m p e)) ∙ a.1 in
        exchanged-sum ks i own s old r q within total z (within_more s j 16 (omega arith) a.0) b c u v x y
        ∙ ap (λ (l : List Kid). total_of l) as-set

    abbrev entry : Kid
    entry = kid (get_or (entries (region_of m p)) i no_kid).slot new

    entry-it : info_set m p i new ≡ value (kid_put m p i entry)
    unfolding kid_set
    entry-it =
        let s = list-says m p e in
        rule-passed 2 (outside m p) (no_entry i ∷ []) (kid_put m p i entry) (not-outside m p s.0) ∙ one-passed 3 (past i 15) (kid_put m p i entry) (le-ltb 15 i (omega (arith, s.2)))

    module _ (v : Answer (Unit {0})) (after : List ℕ) (g : Wrote (info_set m p i new) m v after) where
      pub entry-never : {X : Type 0} (q : Refusal) → v ≡ Err q → X
      entry-never q f = wrote-never _ m v after g _ entry-it q f

      pub entry-put : after ≡ kid_put m p i own
      entry-put =
          g.memory
          ∙ ap (λ (o : Outcome (List ℕ)). kept m o) entry-it
          ∙ ap (λ (x : Kid). kid_put m p i (kid x.slot new)) (sym (get_or-take (len_of m p) (entries (region_of m p)) i no_kid h))

    module _ (t : Answer TextInfo) (c : outcome t ≡ ruled ((2, too_wide (total_of anew)) ∷ []) (narrowed (total_of anew))) where
      pub one-refused-by : (q : Refusal) (after : List ℕ) → t ≡ Err q → after ≡ m → Stepped (one_put m p i new) m (Err q) after
      one-refused-by q after z g =
          let w = one-refused 2 (too_wide (total_of anew)) (narrowed (total_of anew)) (refusal_number q) (sym (ap outcome z) ∙ c) in
          step-refused (one_put m p i new) m q after (one-there ∙ one-applies 2 (too_wide (total_of anew)) done w.0 ∙ ap (λ (k : ℕ). refused k) (sym w.1)) g

      module _ (all : TextInfo) (z : t ≡ Ok all) (n : ℕ) (len : len_of m p ≡ n) (after : List ℕ) (g : after ≡ kid_put m p i own) where
        put_is : one_put m p i new ≡ value (sized 4 n all, kid_put m p i own)
        put_is =
            let a = accepted 2 (too_wide (total_of anew)) [] (narrowed (total_of anew)) all (sym c ∙ ap outcome z) in
            one-there
            ∙ one-passed 2 (too_wide (total_of anew)) done a.0
            ∙ ap (λ (j : ℕ). value (sized 4 j (counts_of anew), kid_put m p i own)) len
            ∙ ap (λ (x : TextInfo). value (sized 4 n x, kid_put m p i own)) (all-accepted (narrowed (total_of anew)) all a.1)

        pub one-small : n < 4 → Stepped (one_put m p i new) m (Ok (Edit·case.Small all)) after
        one-small l =
            step-done (one_put m p i new) m (sized 4 n all) (kid_put m p i own) after (Ok (Edit·case.Small all)) put_is
            (ap (λ (b : Bool). value (cond b (small all) (same all))) (sym (lt-ltb n 4 l))) g

        pub one_same : 4 ≤ n → Stepped (one_put m p i new) m (Ok (Edit·case.Same all)) after
        one_same l =
            step-done (one_put m p i new) m (sized 4 n all) (kid_put m p i own) after (Ok (Edit·case.Same all)) put_is
            (ap (λ (b : Bool). value (cond b (small all) (same all))) (sym (le-ltb n 4 l))) g

    -- ── the memory ──

    -- THEOREM: the list has the children with the one counted anew, and nothing else changed
    pub one-laid : ((j : ℕ) → j < length anew → Fits (get_or anew j no_kid)) → Laid m (kid_put m p i own) p anew
    one-laid f =
        subst (Laid m (kid_put m p i own) p) as-set
        (kid-laid m p i e h own (subst Fits own_at (f i (omega (arith, many)))))

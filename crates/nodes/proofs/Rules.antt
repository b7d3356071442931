-- From what the code found to the rules of `Calls`: what each of its paths makes of a call.
use Rattle.std.specs.Prelude.{Ok, Err}
use mathlib.Core.Path.{◌≡◌, refl, sym, ap, subst, ◌∙◌}
use mathlib.Core.Bool.{Bool, true, false, not}
use mathlib.Core.List.{List, [], ◌∷◌, ◌++◌}
use Prim.Native.Nat.{ℕ, ◌+◌, ◌≤◌, ◌<◌}
use native.Mathlib.Omega.{arith}
use native.Mathlib.Numerals.{add-one}
use lib.ListN.{length, take, drop, set, get_or, length-take, length-drop}
use lib.Seq.{length-take-le, get_or-take, take-suc, drop-cons}
use borrow.Author.Tests.{lt-ltb, le-ltb}
use Rattle.plain.specs.Utf8.{valid_utf8, decode}
use Rattle.plain.specs.Outcome.{Outcome, Outcome.value, Outcome.refused, Rule, ruled, past, kept}
use Rattle.plain.proofs.Logic.{cut, or-none}
use Rattle.plain.proofs.Outcome.{rule-applies, rule-passed, one-applies, one-passed, passed, more-refused, more-passed}
use Rattle.answer.specs.Answers.{refusal_number, Answer, outcome}
use Rattle.answer.specs.declared.Refusal.{Refusal}
use Rattle.leaf_bytes.specs.Leaf.{leaf_of}
use Rattle.leaf_bytes.proofs.Opened.{never}
use Rattle.text_info.specs.Info.{info_of, leaf_info}
use Rattle.text_info.specs.declared.TextInfo.{TextInfo}
use Rattle.text_info.specs.declared.TextSum.{TextSum}
use Rattle.pool.specs.declared.Kid.{Kid}
use Rattle.pool.specs.Slot.{slot_start, len_of, region_of, entries, no_kid, Fits, head_put, kid_put}
use Rattle.pool.specs.Calls.{outside, no_entry, head_set, kid_set, Wrote}
use Rattle.pool.proofs.Opened.{head-wrote}
use Rattle.pool.proofs.Rules.{wrote-done}
use Rattle.pool.proofs.Slots.{head-size}
use Rattle.node_children.specs.declared.NodeChildren.{NodeChildren}
use Rattle.node_children.specs.declared.Listed.{Listed}
use Rattle.child_search.specs.declared.Measure.{Measure}
use Rattle.node_children.specs.Kids.{kids, list_of, Listing}
use Rattle.node_children.specs.Calls.{too_long}
use Rattle.child_search.specs.Sought.{searched, searched_in}
use Rattle.child_search.proofs.Reading.{searched-child}
use Rattle.child_search.proofs.Walk.{few-is}
use Rattle.node_children.proofs.Lists.{kids-of, is-kids, put_holds}
use Rattle.nodes.specs.Node.{is_leaf, is_list, children_of, text_of, too_wide, narrowed, total_of, counts_of, lost, ill, kids_put, list_put, Fitting}
use Rattle.nodes.specs.Calls.{loaded, list_searched, stored, Fitted, list_counted, counted}
use Rattle.nodes.proofs.Heads.{leaf-no-list, list-no-leaf, list-says, not-outside}

-- ── a sum in 32 bits ──

module _ (s : TextSum) where
  pub wide-first : 4294967295 < s.bytes → too_wide s ≡ true
  wide-first h = rw (lt-ltb 4294967295 s.bytes h)

  pub wide-second : s.bytes ≤ 4294967295 → 4294967295 < s.chars → too_wide s ≡ true
  wide-second a h = rw (le-ltb 4294967295 s.bytes a, lt-ltb 4294967295 s.chars h)

  pub wide-third : s.bytes ≤ 4294967295 → s.chars ≤ 4294967295 → 4294967295 < s.utf16_surrogates → too_wide s ≡ true
  wide-third a b h = rw (le-ltb 4294967295 s.bytes a, le-ltb 4294967295 s.chars b, lt-ltb 4294967295 s.utf16_surrogates h)

  pub wide-fourth : s.bytes ≤ 4294967295 → s.chars ≤ 4294967295 → s.utf16_surrogates ≤ 4294967295 → 4294967295 < s.line_breaks → too_wide s ≡ true
  wide-fourth a b c h =
      rw (le-ltb 4294967295 s.bytes a, le-ltb 4294967295 s.chars b, le-ltb 4294967295 s.utf16_surrogates c, lt-ltb 4294967295 s.line_breaks h)

  pub wide-none : s.bytes ≤ 4294967295 → s.chars ≤ 4294967295 → s.utf16_surrogates ≤ 4294967295 → s.line_breaks ≤ 4294967295 → too_wide s ≡ false
  wide-none a b c d =
      or-none _ _ (le-ltb 4294967295 s.bytes a)
      (or-none _ _ (le-ltb 4294967295 s.chars b) (or-none _ _ (le-ltb 4294967295 s.utf16_surrogates c) (le-ltb 4294967295 s.line_breaks d)))

  pub too_wide_lem : too_wide s ≡ true → refused 2 ≡ ruled ((2, too_wide s) ∷ []) (narrowed s)
  too_wide_lem e = sym (one-applies 2 (too_wide s) (narrowed s) e)

  pub not_wide : too_wide s ≡ false → value (narrowed s) ≡ ruled ((2, too_wide s) ∷ []) (narrowed s)
  not_wide e = sym (one-passed 2 (too_wide s) (narrowed s) e)

-- ── the counts of a list ──

-- of at most sixteen children: 2 alone
pub few-counted : (c : NodeChildren) → c.len ≤ 16 → list_counted c ≡ ruled ((2, too_wide (total_of (kids c))) ∷ []) (narrowed (total_of (kids c)))
unfolding list_counted ruled
few-counted c h = rw (le-ltb 16 c.len h)

module _ (c : NodeChildren) (s : TextSum) (all : s ≡ total_of (kids c)) (i : Answer TextInfo) (promise : outcome i ≡ ruled ((2, too_wide s) ∷ []) (narrowed s)) where
  abbrev wide : List Rule
  wide = (2, too_wide (total_of (kids c))) ∷ []

  abbrev v : TextInfo
  v = narrowed (total_of (kids c))

  early : outcome i ≡ ruled wide v
  early = promise ∙ ap (λ (t : TextSum). ruled ((2, too_wide t) ∷ []) (narrowed t)) all

  pub sum-refused : (q : Refusal) → i ≡ Err q → outcome i ≡ list_counted c
  unfolding list_counted
  sum-refused q e = ap outcome e ∙ sym (more-refused wide (too_long c.len ∷ []) v v (refusal_number q) (sym early ∙ ap outcome e))

  module _ (t : TextInfo) (e : i ≡ Ok t) where
    rest : list_counted c ≡ ruled (too_long c.len ∷ []) v
    unfolding list_counted
    rest = more-passed wide (too_long c.len ∷ []) v t v (sym early ∙ ap outcome e)

    pub sum-long : 16 < c.len → refused 11 ≡ list_counted c
    sum-long h = sym (rest ∙ one-applies 11 (past c.len 16) v (lt-ltb 16 c.len h))

    pub sum_is : c.len ≤ 16 → outcome i ≡ list_counted c
    sum_is h =
        ap outcome e ∙ ap (λ (x : TextInfo). value x) (passed wide v t (sym early ∙ ap outcome e)).1 ∙ sym (rest ∙ one-passed 11 (past c.len 16) v (le-ltb 16 c.len h))

-- ── a list read ──

-- a turn of the loop that reads a list: its children up to i, and the one at i set behind them
pub read-turn : (l : NodeChildren) (es : List Kid) (i : ℕ) (k : Kid) → length es ≡ 16 → i < 16 → l ≡ list_of (take i es) → k ≡ get_or es i no_kid
    → ◌≡◌ {A = NodeChildren} (record { len = i + 1; arr = set l.arr i k }) (list_of (take (i + 1) es))
unfolding list_of
read-turn l es i k n h e f =
    let z : l.len ≡ i = ap (λ (c : NodeChildren). c.len) e ∙ length-take-le i es (omega arith) in
    let t : kids l ++ (k ∷ []) ≡ take (i + 1) es =
    ap (λ (x : List Kid). x ++ (k ∷ [])) (is-kids l (take i es) e)
    ∙ ap (λ (x : Kid). take i es ++ (x ∷ [])) f
    ∙ sym (take-suc es i no_kid (omega arith))
    ∙ ap (λ (j : ℕ). take j es) (sym (add-one i)) in
    let put = put_holds l k (omega arith) (e ∙ ap list_of (sym (is-kids l (take i es) e))) in
    ap (λ (j : ℕ). record { len = j + 1; arr = set l.arr j k }) (sym z) ∙ put.is ∙ ap list_of t

module _ (m : List ℕ) (s : ℕ) where
  pub loaded-is : is_list m s ≡ true → loaded m s ≡ value (list_of (children_of m s))
  unfolding loaded
  loaded-is e = one-passed 2 (not (is_list m s)) (list_of (children_of m s)) (ap not e)

  pub loaded-not : is_list m s ≡ false → loaded m s ≡ refused 2
  unfolding loaded
  loaded-not e = one-applies 2 (not (is_list m s)) (list_of (children_of m s)) (ap not e)

  pub load-done : (n : ℕ) (r : Listed) → is_list m s ≡ true → len_of m s ≡ n → Listing (value (list_of (take n (entries (region_of m s))))) (list_of []) r → Listing (loaded m s) (list_of []) r
  load-done n r e z w =
      let y : ◌≡◌ {A = Outcome NodeChildren} (value (list_of (take n (entries (region_of m s))))) (loaded m s) =
      ap (λ (i : ℕ). value (list_of (take i (entries (region_of m s))))) (sym z) ∙ sym (loaded-is e) in
      subst (λ (o : Outcome NodeChildren). Listing o (list_of []) r) y w

  pub load-not : (n : ℕ) (r : Listed) → is_list m s ≡ false → n ≡ 2 → Listing (refused n) (list_of []) r → Listing (loaded m s) (list_of []) r
  load-not n r e z w =
      let y : ◌≡◌ {A = Outcome NodeChildren} (refused n) (loaded m s) = ap (λ (k : ℕ). refused k) z ∙ sym (loaded-not e) in
      subst (λ (o : Outcome NodeChildren). Listing o (list_of []) r) y w

  module _ (by : Measure) (at : ℕ) where
    pub search_is : is_list m s ≡ true → list_searched m s by at ≡ searched (list_of (children_of m s)) by at
    unfolding list_searched
    search_is e = rw e

    pub search-not : is_list m s ≡ false → list_searched m s by at ≡ refused 2
    unfolding list_searched
    search-not e = rw e

    -- and by a refusal that is 2
    pub search-none : (n : ℕ) → is_list m s ≡ false → n ≡ 2 → refused n ≡ list_searched m s by at
    search-none n e z =
        let y : ◌≡◌ {A = Outcome (ℕ × TextSum)} (refused n) (refused 2) = ap (λ (k : ℕ). refused k) z in
        y ∙ sym (search-not e)

    pub search-done : (n : ℕ) (f : Answer (ℕ × TextSum)) → is_list m s ≡ true → len_of m s ≡ n → outcome f ≡ searched_in m s n by at → outcome f ≡ list_searched m s by at
    search-done n f e z p =
        let l = list-says m s e in
        p
        ∙ few-is m s n by at (not-outside m s l.0) (omega (arith, l.2))
        ∙ ap (λ (k : ℕ). searched (list_of (take k (entries (region_of m s)))) by at) (sym z)
        ∙ sym (search_is e)

    -- THEOREM: what is found is a child of the list, and its entry is that of the slot
    pub search-child : (i : ℕ) (left : TextSum) → list_searched m s by at ≡ value (i, left)
        → (is_list m s ≡ true) × (i < len_of m s) × (get_or (entries (region_of m s)) i no_kid ≡ get_or (children_of m s) i no_kid)
    search-child i left e = go (is_list m s) refl
      where
        go : (b : Bool) → is_list m s ≡ b → (is_list m s ≡ true) × (i < len_of m s) × (get_or (entries (region_of m s)) i no_kid ≡ get_or (children_of m s) i no_kid)
        go true t =
            let h : i < len_of m s =
            omega (arith, searched-child (children_of m s) by at i left (sym (search_is t) ∙ e), length-take (len_of m s) (entries (region_of m s))) in
            (t, h, sym (get_or-take (len_of m s) (entries (region_of m s)) i no_kid h))
        go false t = absurd (never 2 _ (sym (search-not t) ∙ e))

  -- ── counts ──

  two-rules : {A : Type 0} (t u : Bool) (a : A) → u ≡ false → ruled ((5, t) ∷ (11, u) ∷ []) a ≡ ruled ((2, false) ∷ (5, t) ∷ []) a
  unfolding ruled
  two-rules true u a e = refl
  two-rules false u a e = rw e

  pub counted-leaf : (n : ℕ) (i : Answer TextInfo) → is_leaf m s ≡ true → len_of m s ≡ n → n ≤ 512 → outcome i ≡ leaf_info (leaf_of (region_of m s) n) → outcome i ≡ counted m s
  unfolding leaf_info counted lost ill counts_of
  counted-leaf n i e z h p =
      p
      ∙ ap (λ (k : ℕ). leaf_info (leaf_of (region_of m s) k)) (sym z)
      ∙ two-rules (not (valid_utf8 (text_of m s))) _ (info_of (decode (text_of m s))) (le-ltb 512 (length (text_of m s)) (omega (arith, length-take (len_of m s) (region_of m s))))
      ∙ sym (rw (e, leaf-no-list m s e))

  short : (ks : List Kid) → length ks ≤ 16 → list_counted (list_of ks) ≡ ruled ((2, too_wide (total_of ks)) ∷ []) (narrowed (total_of ks))
  unfolding list_of
  short ks h = few-counted (list_of ks) h ∙ ap (λ (xs : List Kid). ruled ((2, too_wide (total_of xs)) ∷ []) (narrowed (total_of xs))) (kids-of ks)

  pub counted-list : (n : ℕ) (i : Answer TextInfo) → is_list m s ≡ true → len_of m s ≡ n → n ≤ 16 → outcome i ≡ list_counted (list_of (take n (entries (region_of m s)))) → outcome i ≡ counted m s
  unfolding list_counted counted lost ill counts_of ruled
  counted-list n i e z h p =
      p
      ∙ ap (λ (k : ℕ). list_counted (list_of (take k (entries (region_of m s))))) (sym z)
      ∙ short (children_of m s) (omega (arith, length-take (len_of m s) (entries (region_of m s))))
      ∙ sym (rw (list-no-leaf m s e, e))

  pub counted-not : (n : ℕ) → is_leaf m s ≡ false → is_list m s ≡ false → n ≡ 2 → refused n ≡ counted m s
  unfolding counted lost
  counted-not n e f z =
      let y : ◌≡◌ {A = Outcome TextInfo} (refused n) (refused 2) = ap (λ (k : ℕ). refused k) z in
      y ∙ sym (rule-applies 2 (lost m s) ((5, ill m s) ∷ []) (counts_of m s) (rw (e, f)))

-- ── a list written ──

pub put-turn : (m l x : List ℕ) (s i : ℕ) (arr : List Kid) → i < length arr → l ≡ kid_put m s i (get_or arr i no_kid) → kids_put m s i (drop i arr) ≡ x
    → kids_put l s (i + 1) (drop (i + 1) arr) ≡ x
unfolding kids_put
put-turn m l x s i arr h e p =
    ap (λ (b : List ℕ). kids_put b s (i + 1) (drop (i + 1) arr)) e
    ∙ ap (λ (n : ℕ). kids_put (kid_put m s i (get_or arr i no_kid)) s (i + 1) (drop n arr)) (add-one i)
    ∙ sym (ap (kids_put m s i) (drop-cons arr i no_kid h))
    ∙ p

pub put-end : (m : List ℕ) (s i : ℕ) (arr : List Kid) → length arr ≤ i → m ≡ kids_put m s i (drop i arr)
unfolding kids_put
put-end m s i arr h = sym (ap (kids_put m s i) (gone (drop i arr) (omega (arith, length-drop i arr))))
  where
    gone : (ks : List Kid) → length ks ≡ 0 → ks ≡ []
    gone [] e = refl
    gone (k ∷ ks) e = absurd (omega arith)

-- an entry of a slot in the memory is written
pub kid_is : (m : List ℕ) (s i : ℕ) (k : Kid) → slot_start s + 640 ≤ length m → i < 16 → kid_set m s i k ≡ value (kid_put m s i k)
unfolding kid_set
kid_is m s i k h l =
    let p = kid_put m s i k in
    rule-passed 2 (outside m s) (no_entry i ∷ []) p (not-outside m s h) ∙ one-passed 3 (past i 15) p (le-ltb 15 i (omega arith))

pub kid-set : (m : List ℕ) (s i : ℕ) (k : Kid) (v : Answer (Unit {0})) (after : List ℕ) → Wrote (kid_set m s i k) m v after → slot_start s + 640 ≤ length m → i < 16
    → after ≡ kid_put m s i k
kid-set m s i k v after w h l = w.memory ∙ ap (λ (o : Outcome (List ℕ)). kept m o) (kid_is m s i k h l)

pub fits-turn : (ks : List Kid) (i : ℕ) → ((j : ℕ) → j < i → Fits (get_or ks j no_kid)) → Fits (get_or ks i no_kid) → (j : ℕ) → j < i + 1 → Fits (get_or ks j no_kid)
fits-turn ks i f k j h = cut j i (λ l. f j l) (λ l. let z : i ≡ j = omega arith in subst (λ (n : ℕ). Fits (get_or ks n no_kid)) z k)

-- ── a list stored ──

same-refusal : (a b : Bool) (x : List ℕ) (y : List ℕ) (m : List ℕ) (q : Refusal) (after : List ℕ)
    → Wrote (ruled ((2, a) ∷ (11, b) ∷ []) x) m (Err q) after → Wrote (ruled ((2, a) ∷ (11, b) ∷ []) y) m (Err q) after
unfolding ruled
same-refusal true b x y m q after w = w
same-refusal false true x y m q after w = w
same-refusal false false x y m q after w = absurd (never (refusal_number q) tt w.answered)

module _ (m : List ℕ) (s : ℕ) (c : NodeChildren) where
  pub store-not : (q : Refusal) (v : Answer (Unit {0})) (after : List ℕ) → Wrote (head_set m s 2 c.len 16 0) m v after → v ≡ Err q
      → Wrote (stored m s c) m v after × Fitted v c.arr
  unfolding head_set stored
  store-not q v after w e =
      let u = subst (λ (x : Answer (Unit {0})). Wrote (head_set m s 2 c.len 16 0) m x after) e w in
      subst (λ (x : Answer (Unit {0})). Wrote (stored m s c) m x after × Fitted x c.arr) (sym e)
      (same-refusal (outside m s) (past c.len 16) (head_put m s 2 c.len 0) (list_put m s c) m q after u, tt)

  pub stored_is : slot_start s + 640 ≤ length m → c.len ≤ 16 → stored m s c ≡ value (list_put m s c)
  unfolding stored
  stored_is h k =
      rule-passed 2 (outside m s) (too_long c.len ∷ []) (list_put m s c) (not-outside m s h) ∙ one-passed 11 (past c.len 16) (list_put m s c) (le-ltb 16 c.len k)

  pub store-done : (v : Answer (Unit {0})) (l : List ℕ) (u : Answer (Unit {0})) (after : List ℕ) → Wrote (head_set m s 2 c.len 16 0) m v l → v ≡ (Ok tt) → outcome u ≡ value tt
      → after ≡ kids_put l s 0 c.arr → Fitting c.arr → Wrote (stored m s c) m u after × Fitted u c.arr
  store-done v l u after w g a e f =
      let h = head-wrote m s 2 c.len 16 0 l (subst (λ (x : Answer (Unit {0})). Wrote (head_set m s 2 c.len 16 0) m x l) g w) in
      (wrote-done (stored m s c) m u (list_put m s c) after (stored_is h.0 h.1) a (e ∙ ap (λ (b : List ℕ). kids_put b s 0 c.arr) h.2), fitted u)
    where
      fitted : (u : Answer (Unit {0})) → Fitted u c.arr
      fitted (Ok tt) = f
      fitted (Err q) = tt

  -- the slot is there still when the entries are written
  pub head-there : (v : Answer (Unit {0})) (l : List ℕ) → Wrote (head_set m s 2 c.len 16 0) m v l → v ≡ (Ok tt) → outside l s ≡ false
  head-there v l w e =
      let h = head-wrote m s 2 c.len 16 0 l (subst (λ (x : Answer (Unit {0})). Wrote (head_set m s 2 c.len 16 0) m x l) e w) in
      not-outside l s (omega (arith, ap length h.2 ∙ head-size m s 2 c.len 0 h.0))

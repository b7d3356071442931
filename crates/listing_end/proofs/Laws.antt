-- A mark as it is read, what is put for the marks one by one, the lines of the live ones, and the end.
use Rattle.std.specs.Prelude.{Ok, Err}
use mathlib.Core.Path.{◌≡◌, refl, sym, ap, subst, ◌∙◌}
use mathlib.Core.Bool.{true}
use mathlib.Core.List.{List, [], ◌∷◌, ◌++◌, append_assoc, append-nil, map}
use Prim.Native.Nat.{ℕ, suc, ◌+◌, ◌<◌}
use native.Mathlib.Omega.{arith}
use lib.ListN.{length, get_or, take, drop, set, length-drop}
use lib.Seq.{drop-cons, drop-length, take-suc-set, drop-set-lt}
use Rattle.plain.specs.Place.{bytes, units}
use Rattle.plain.specs.Count.{lines, line_at}
use Rattle.plain.specs.Outcome.{Outcome, Outcome.value, Outcome.refused, ruled, mapped, kept}
use Rattle.plain.proofs.Outcome.{clash}
use Rattle.plain_note.specs.Note.{Note, Mark, Mark.free, Mark.at, most_by}
use Rattle.plain_calls.specs.Marks.{is_free, place_in, mark_of, standing, line_beside}
use Rattle.answer.specs.Answers.{refusal_number, Answer, outcome}
use Rattle.answer.specs.declared.Refusal.{Refusal}
use Rattle.note_head.specs.Head.{root_of, own_of}
use Rattle.memory.specs.Formed.{well_formed, note_of, of_note}
use Rattle.memory.proofs.Formed.{note-called}
use Rattle.marks.specs.MarkBytes.{standing_in}
use Rattle.marks.proofs.Written.{marks-length}
use Rattle.note_counts.specs.Counts.{most_in}
use Rattle.note_counts.specs.declared.Count.TheVariants.{Bytes, Chars, Units, Lines}
use Rattle.note_counts.proofs.Rules.{head-told}
use Rattle.note_promise.proofs.MarkCalls.{standing-is}
use Rattle.pool.specs.declared.Kid.{Kid}
use Rattle.listing_lines.specs.Puts.{Laid}
use Rattle.plain_journal.specs.Listing.{mark_line, mark_row, mark_rows, totals_line, ending}
use Rattle.listing_end.specs.MarkLines.{place_row, places, lines_of, Due}

-- ── a number of the note ──

pub told : (m : List ℕ) → well_formed m ≡ true → (f : Note → ℕ) (a : Outcome ℕ) → a ≡ of_note m (λ N. value (f N)) → kept 0 a ≡ f (note_of m)
told m ok f a e = ap (kept 0) (e ∙ note-called m (λ N. value (f N)) ok)

-- ── a mark as it is read ──

abbrev stands : Mark → Outcome ℕ
stands x = ruled ((7, is_free x) ∷ []) (place_in x)

stands-free : (x : Mark) (q : ℕ) → stands x ≡ refused q → x ≡ free
unfolding ruled
stands-free free q e = refl
stands-free (at p) q e = clash q p (sym e)

stands_live : (x : Mark) (p : ℕ) → stands x ≡ value p → x ≡ at p
unfolding ruled
stands_live free p e = clash 7 p e
stands_live (at q) p e = let z : q ≡ p = cc in ap (λ (n : ℕ). at n) z

module _ (m : List ℕ) (k : ℕ) (r : Answer ℕ) (promise : outcome r ≡ standing_in m k) where
  stood : stands (mark_of (note_of m) k) ≡ outcome r
  unfolding standing
  stood = standing-is m k ∙ sym promise

  pub mark-free : (q : Refusal) → r ≡ Err q → mark_of (note_of m) k ≡ free
  mark-free q e = stands-free (mark_of (note_of m) k) (refusal_number q) (stood ∙ ap outcome e)

  pub mark-live : (p : ℕ) → r ≡ Ok p → mark_of (note_of m) k ≡ at p
  mark-live p e = stands_live (mark_of (note_of m) k) p (stood ∙ ap outcome e)

-- the row of a live mark, from its place and its line
module _ (m : List ℕ) (ok : well_formed m ≡ true) (k : ℕ) where
  pub row-live : (p : ℕ) (l : Outcome ℕ) → value p ≡ of_note m (λ N. standing N k) → l ≡ of_note m (λ N. line_beside N k)
      → mark_line k p (kept 0 l) ≡ mark_row (note_of m).text k (mark_of (note_of m) k)
  unfolding standing line_beside
  row-live p l e f =
      let here : stands (mark_of (note_of m) k) ≡ value p = sym (e ∙ note-called m (λ N. standing N k) ok) in
      let line : l ≡ value (line_at (note_of m).text p) = f ∙ note-called m (λ N. line_beside N k) ok ∙ ap (mapped (line_at (note_of m).text)) here in
      ap (λ (o : Outcome ℕ). mark_line k p (kept 0 o)) line ∙ sym (ap (mark_row (note_of m).text k) (stands_live (mark_of (note_of m) k) p here))

pub marks-256 : (m : List ℕ) → length (note_of m).marks ≡ 256
marks-256 m = marks-length (own_of m) 0 256

-- ── what is put mark by mark, and what is still to come ──

module _ (all : ℕ → List Mark → List ℕ) (marks : List Mark) where
  abbrev pub Rows : ℕ → List ℕ → Type 0
  Rows k put = all 0 marks ≡ put ++ all k (drop k marks)

  pub rows_start : Rows 0 []
  rows_start = refl

  pub rows-turn : (row : ℕ → Mark → List ℕ) → ((k : ℕ) (x : Mark) (xs : List Mark) → all k (x ∷ xs) ≡ row k x ++ all (suc k) xs)
      → (k : ℕ) (put : List ℕ) → k < length marks → Rows k put → Rows (k + 1) (put ++ row k (get_or marks k free))
  rows-turn row one k put h r =
      let z : suc k ≡ k + 1 = omega arith in
      let this = row k (get_or marks k free) in
      r ∙ ap (λ (xs : List Mark). put ++ all k xs) (drop-cons marks k free h)
      ∙ ap (λ (l : List ℕ). put ++ l) (one k (get_or marks k free) (drop (suc k) marks))
      ∙ sym (append_assoc put this (all (suc k) (drop (suc k) marks)))
      ∙ ap (λ (j : ℕ). (put ++ this) ++ all j (drop j marks)) z

  pub rows_end : ((k : ℕ) → all k [] ≡ []) → (k : ℕ) (put : List ℕ) → k ≡ length marks → Rows k put → put ≡ all 0 marks
  rows_end none k put e r =
      sym (r ∙ ap (λ (xs : List Mark). put ++ all k xs) (ap (λ (j : ℕ). drop j marks) e ∙ drop-length marks) ∙ ap (λ (l : List ℕ). put ++ l) (none k) ∙ append-nil put)

-- the rows of a listing
pub row-none : (text : List ℕ) (k : ℕ) → mark_rows text k [] ≡ []
unfolding mark_rows
row-none text k = refl

pub row_one : (text : List ℕ) (k : ℕ) (x : Mark) (xs : List Mark) → mark_rows text k (x ∷ xs) ≡ mark_row text k x ++ mark_rows text (suc k) xs
unfolding mark_rows
row_one text k x xs = refl

-- the places
pub place_none : places [] ≡ []
unfolding places
place_none = refl

pub place-one : (x : Mark) (xs : List Mark) → places (x ∷ xs) ≡ place_row x ++ places xs
unfolding places
place-one x xs = refl

-- nothing is put for a mark that is free
pub laid_none : (n : ℕ) (o none : List ℕ) → [] ≡ none → Laid n none o n o
laid_none n o none e = subst (λ (l : List ℕ). Laid n l o n o) e (omega arith, sym (append-nil (take n o)), refl)

-- one number put
pub laid_one : (n : ℕ) (o one : List ℕ) (p : ℕ) → n < length o → p ∷ [] ≡ one → Laid n one o (n + 1) (set o n p)
laid_one n o one p h e =
    let z : suc n ≡ n + 1 = omega arith in
    subst (λ (l : List ℕ). Laid n l o (n + 1) (set o n p)) e
    (refl, subst (λ (k : ℕ). take k (set o n p) ≡ take n o ++ (p ∷ [])) z (take-suc-set o n p h), drop-set-lt (n + 1) o n p (omega arith))

-- ── the lines that are due ──

module _ (N : Note) (k j : ℕ) (ls : List ℕ) (due : Due N k j ls) (inside : k < length N.marks) where
  abbrev rest : List Mark
  rest = drop (suc k) N.marks

  to-come : (x : Mark) → mark_of N k ≡ x → drop j ls ≡ map (line_at N.text) (place_row x ++ places rest)
  to-come x e =
      due ∙ ap (lines_of N.text) (drop-cons N.marks k free inside) ∙ ap (map (line_at N.text)) (place-one (mark_of N k) rest)
      ∙ ap (λ (y : Mark). map (line_at N.text) (place_row y ++ places rest)) e

  next : (i : ℕ) → drop i ls ≡ lines_of N.text rest → Due N (k + 1) i ls
  next i e = let z : suc k ≡ k + 1 = omega arith in e ∙ ap (λ (n : ℕ). lines_of N.text (drop n N.marks)) z

  pub due-free : mark_of N k ≡ free → Due N (k + 1) j ls
  due-free e = next j (to-come free e)

  module _ (p : ℕ) (e : mark_of N k ≡ at p) where
    here : drop j ls ≡ line_at N.text p ∷ lines_of N.text rest
    here = to-come (at p) e

    pub due-inside : j < length ls
    due-inside = omega (arith, ap length here, length-drop j ls)

    parted : get_or ls j 0 ∷ drop (suc j) ls ≡ line_at N.text p ∷ lines_of N.text rest
    parted = sym (drop-cons ls j 0 due-inside) ∙ here

    pub due-line : get_or ls j 0 ≡ line_at N.text p
    due-line = ap (λ (l : List ℕ). get_or l 0 0) parted

    pub due-next : Due N (k + 1) (j + 1) ls
    due-next = let z : suc j ≡ j + 1 = omega arith in next (j + 1) (ap (λ (n : ℕ). drop n ls) (sym z) ∙ ap (drop 1) parted)

-- ── the end ──

-- the totals as the code adds them up
pub totals-are : (b c s l x y u z : ℕ) → x ≡ b → y ≡ c → u ≡ s → z ≡ l → totals_line x y (y + u) (z + 1) ≡ totals_line b c (c + s) (l + 1)
totals-are b c s l x y u z ex ey eu ez = cc (ex, ey, eu, ez)

-- the totals, from the counts in the head
module _ (m : List ℕ) (ok : well_formed m ≡ true) (k : Kid) (e : k ≡ root_of m) where
  abbrev text : List ℕ
  text = (note_of m).text

  -- THEOREM: the totals, then the rows
  pub end_is : totals_line (most_in Bytes k.info) (most_in Chars k.info) (most_in Units k.info) (most_in Lines k.info) ++ mark_rows (note_of m).text 0 (note_of m).marks ≡ ending (note_of m)
  unfolding ending most_by
  end_is =
      let b : most_in Bytes k.info ≡ bytes text = head-told m ok Bytes k e in
      let c : most_in Chars k.info ≡ length text = head-told m ok Chars k e in
      let u : most_in Units k.info ≡ units text = head-told m ok Units k e in
      let l : most_in Lines k.info ≡ lines text = head-told m ok Lines k e in
      ap (λ (n : ℕ). totals_line n (most_in Chars k.info) (most_in Units k.info) (most_in Lines k.info) ++ mark_rows text 0 (note_of m).marks) b
      ∙ ap (λ (n : ℕ). totals_line (bytes text) n (most_in Units k.info) (most_in Lines k.info) ++ mark_rows text 0 (note_of m).marks) c
      ∙ ap (λ (n : ℕ). totals_line (bytes text) (length text) n (most_in Lines k.info) ++ mark_rows text 0 (note_of m).marks) u
      ∙ ap (λ (n : ℕ). totals_line (bytes text) (length text) (units text) n ++ mark_rows text 0 (note_of m).marks) l

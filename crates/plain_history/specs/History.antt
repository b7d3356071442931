-- Which chars follow a mark. In these definitions, and nowhere else, each char has a number of its own, given when it enters the note or at the
-- start of the sequence: a char typed again is another char. What is told of a mark is read from the calls and their answers; of where the mark
-- stands, only its place at the start.
use Rattle.std.specs.Prelude.{Bool, false, ◌&&◌, ◌||◌, cond, List, [], ◌∷◌, ◌++◌, ℕ, zero, suc, ◌+◌, eqb, length, get_or, drop}
use Rattle.plain.specs.Utf8.{decode}
use Rattle.plain.specs.Edit.{replaced}
use Rattle.plain.specs.Outcome.{Outcome, Outcome.value, Outcome.refused}
use Rattle.plain_note.specs.Note.{Note, Mark, Mark.free, Mark.at}
use Rattle.plain_calls.specs.Marks.{mark_of}
use Rattle.plain_calls.specs.Calls.{Call, Call.insert, Call.remove, Call.set_mark, Call.drop_mark, Call.look, Said, Said.done, Said.is, Said.by, Said.bytes, called, left}

-- ── what is told ──

-- of one mark: it is not live, or it is live and has followers, a set of numbers
pub data Behind : Type 0 where
  none : Behind
  followers : (ℕ → Bool) → Behind

-- the numbers of the note's chars in their order, the next number to give, and the followers of one mark
pub record Told : Type 0 where
  pub order : List ℕ
  pub next : ℕ
  pub behind : Behind

-- m numbers from a on
abbrev pub up_from : ℕ → ℕ → List ℕ
up_from a zero = []
up_from a (suc m) = a ∷ up_from (suc a) m

abbrev pub is_in : ℕ → List ℕ → Bool
is_in x [] = false
is_in x (y ∷ ys) = eqb x y || is_in x ys

-- ── the start ──

-- the chars behind a mark when it is set follow it
unfoldable pub set_at : Mark → List ℕ → Behind
set_at free order = none
set_at (at q) order = followers (λ x. is_in x (drop q order))

-- every char of the note gets its number, and mark k, if it is live, counts as set where it stands
unfoldable pub begun : ℕ → Note → Told
unfolding set_at
begun k N =
    let order : List ℕ = up_from 0 (length N.text) in
    record { order = order; next = length N.text; behind = set_at (mark_of N k) order }

-- ── one call ──

-- does the char directly before place p follow?
abbrev pub joins : (ℕ → Bool) → List ℕ → ℕ → Bool
joins f order zero = false
joins f order (suc p) = f (get_or order p 0)

-- new chars at place s follow if they come to stand directly behind a follower
unfoldable pub joined : List ℕ → ℕ → List ℕ → Behind → Behind
joined order s new none = none
joined order s new (followers f) = followers (λ x. f x || (joins f order s && is_in x new))

-- the chars of [s, e) give way to m new ones: none new in a removal, none gone in an insertion
abbrev pub rewritten : ℕ → ℕ → ℕ → Told → Told
rewritten s e m t =
    let new : List ℕ = up_from t.next m in
    record { order = replaced s e new t.order; next = t.next + m; behind = joined t.order s new t.behind }

-- does a call answer this number?
abbrev pub names : Said → ℕ → Bool
names done k = false
names (is j) k = eqb j k
names (by z) k = false
names (bytes bs) k = false

-- an accepted call with its answer, told of mark k
unfoldable pub tell : ℕ → Told → Call → Said → Told
unfolding joined set_at
tell k t (insert p piece) a = rewritten p p (length (decode piece)) t
tell k t (remove s e) a = rewritten s e 0 t
tell k t (set_mark p) a = record { order = t.order; next = t.next; behind = cond (names a k) (set_at (at p) t.order) t.behind }
tell k t (drop_mark j) a = record { order = t.order; next = t.next; behind = cond (eqb j k) none t.behind }
tell k t (look l) a = t

-- a call of any kind: a refused one changes nothing
abbrev pub told : ℕ → Told → Call → Outcome (Said × Note) → Told
told k t c (value r) = tell k t c r.0
told k t c (refused n) = t

-- ── a sequence of calls, each on the note that the one before left ──

abbrev pub told_all : ℕ → Told → Note → List Call → Told
told_all k t N [] = t
told_all k t N (c ∷ cs) = told_all k (told k t c (called N c)) (left N (called N c)) cs

-- every char that has ever been in the note, by its number: those at the start, then those of each accepted piece
abbrev pub new_in : Call → Outcome (Said × Note) → List ℕ
new_in (insert p piece) (value r) = decode piece
new_in (insert p piece) (refused n) = []
new_in (remove s e) o = []
new_in (set_mark p) o = []
new_in (drop_mark j) o = []
new_in (look l) o = []

abbrev pub entered : List ℕ → Note → List Call → List ℕ
entered chars N [] = chars
entered chars N (c ∷ cs) = entered (chars ++ new_in c (called N c)) (left N (called N c)) cs

-- ── where a mark must stand ──

-- the place directly before the first that follows, or the end if none does
unfoldable pub first_in : (ℕ → Bool) → List ℕ → ℕ
first_in f [] = 0
first_in f (x ∷ xs) = cond (f x) 0 (suc (first_in f xs))

unfoldable pub stands : Behind → List ℕ → Mark
unfolding first_in
stands none order = free
stands (followers f) order = at (first_in f order)

-- A script of calls, from its bytes: its whole items and what they ask for, and where a script that has begun stands.
use Rattle.std.specs.Prelude.{◌≡◌, ℕ, ◌+◌, ◌%◌, ◌<◌, ◌≤◌, Bool, true, false, cond, List, [], ◌∷◌, ◌++◌, length, ◌==◌, ◌≢◌, ⊤, Result, Ok, Err, Some, None}
use Rattle.std.proofs.Math.Option.{Option, none as nothing, some}
use Rattle.token.specs.Bytes.{line_feed}
use Rattle.lines.specs.declared.line.Line.{Line}
use Rattle.lines.specs.declared.line.Line.TheVariants.{Open, Steady, List as Listing, Step, State, Report, Save, Return, Forget, Time, Wait, Clock, Independent, Search, Word, Run, Begin, Carry}
use Rattle.lines.specs.declared.line.Reading.{Reading}
use Rattle.lines.specs.declared.script.Part.{Part}
use Rattle.lines.specs.declared.script.Part.TheVariants.{InLine, InText}
use Rattle.lines.specs.declared.script.Script.{Script}
use Rattle.lines.specs.declared.script.Pushed.{Pushed}
use Rattle.lines.specs.declared.script.Pushed.TheVariants.{Goes as GoesOn, Asks as AsksFor}
use Rattle.lines.specs.declared.script.Taken.{Taken}
use Rattle.lines.specs.declared.script.Taken.TheVariants.{Goes, Asks}
use Rattle.lines.specs.declared.script.Broken.{Broken}
use Rattle.lines.specs.Limit.{limit}
use Rattle.lines.specs.Line.{line_of, empty, Reads}

-- how many lines end in s
unfoldable pub breaks : List ℕ → ℕ
breaks [] = 0
breaks (b ∷ s) = cond (b == line_feed) 1 0 + breaks s

-- the number of the line that goes on after s, from 1, as a 64-bit number
abbrev pub number_after : List ℕ → ℕ
number_after s = (1 + breaks s) % limit

-- a line that asks for a call, for the state or the clock, or of two entries, or gives a waiting draw or a word, by itself
abbrev pub is_short : Line → Bool
is_short (Open n) = false
is_short (Steady n) = false
is_short Listing = true
is_short (Step d) = true
is_short State = true
is_short Report = true
is_short (Save n) = true
is_short (Return n) = true
is_short (Forget n) = true
is_short (Time d) = true
is_short (Wait d) = true
is_short Clock = true
is_short (Independent i j) = true
is_short (Search d n) = true
is_short (Word w) = true
is_short (Run n) = true
is_short (Begin d n) = true
is_short (Carry n) = true

-- how many bytes of a text a line asks for
abbrev pub text_of : Line → Option ℕ
text_of (Open n) = some n
text_of (Steady n) = some n
text_of Listing = nothing
text_of (Step d) = nothing
text_of State = nothing
text_of Report = nothing
text_of (Save n) = nothing
text_of (Return n) = nothing
text_of (Forget n) = nothing
text_of (Time d) = nothing
text_of (Wait d) = nothing
text_of Clock = nothing
text_of (Independent i j) = nothing
text_of (Search d n) = nothing
text_of (Word w) = nothing
text_of (Run n) = nothing
text_of (Begin d n) = nothing
text_of (Carry n) = nothing

-- bytes that are whole items: such a line and LF, or a line `open n` or `steady n`, LF, n bytes and LF; and what they ask for in turn
pub data Items : List ℕ → List Line → Type 0 where
  none : Items [] []
  short : {s : List ℕ} {qs : List Line} {q : Line} (l : List ℕ) → Items s qs → breaks l ≡ 0 → line_of l ≡ Some q → is_short q ≡ true → Items (s ++ (l ++ (line_feed ∷ []))) (qs ++ (q ∷ []))
  text : {s : List ℕ} {qs : List Line} {q : Line} {n : ℕ} (l t : List ℕ) → Items s qs → breaks l ≡ 0 → line_of l ≡ Some q → text_of q ≡ some n → length t ≡ n → Items (s ++ (l ++ (line_feed ∷ (t ++ (line_feed ∷ []))))) (qs ++ (q ∷ []))

-- s is whole items, and then a line that has not ended
pub record LineBegun (s : List ℕ) (qs : List Line) (from : ℕ) (r : Reading) : Type 0 where
  pub items : List ℕ
  pub line : List ℕ
  pub is : s ≡ items ++ line
  pub whole : Items items qs
  pub unbroken : breaks line ≡ 0
  pub reads : Reads line r
  pub from_is : from ≡ number_after items

-- s is whole items, and then a line q, which asks for n bytes, with LF and k of them
pub record TextBegun (s : List ℕ) (qs : List Line) (from : ℕ) (q : Line) (n k : ℕ) : Type 0 where
  pub items : List ℕ
  pub line : List ℕ
  pub text : List ℕ
  pub is : s ≡ items ++ (line ++ (line_feed ∷ text))
  pub whole : Items items qs
  pub unbroken : breaks line ≡ 0
  pub opens : line_of line ≡ Some q
  pub asks : text_of q ≡ some n
  pub size : k ≡ length text
  pub fits : k ≤ n
  pub from_is : from ≡ number_after items

abbrev pub Begun : List ℕ → List Line → ℕ → Part → Type 0
Begun s qs from (InLine r) = LineBegun s qs from r
Begun s qs from (InText t) = TextBegun s qs from t.asked t.size t.taken

-- after the bytes s, which have asked for qs, a script stands so; line is the number of the line it is in, from that of the line its last item began with
pub record Stands (s : List ℕ) (qs : List Line) (x : Script) : Type 0 where
  pub line-is : x.line ≡ number_after s
  pub begun : Begun s qs x.from x.part

-- the byte b ends a line of no form, or stands where the LF after a text should; the item began with line n
pub data Misplaced (s : List ℕ) (b n : ℕ) : Type 0 where
  of-line : {qs : List Line} {r : Reading} (x : LineBegun s qs n r) → b ≡ line_feed → line_of x.line ≡ None → Misplaced s b n
  of-text : {qs : List Line} {q : Line} {k : ℕ} → TextBegun s qs n q k k → (b ≢ line_feed) → Misplaced s b n

-- what the byte b does after s: it goes on; it ends an item, which asks for l; or it is wrong
abbrev pub Pushes : List ℕ → List Line → ℕ → Result Pushed Broken → Script → Type 0
Pushes s qs b (Ok GoesOn) x = Stands (s ++ (b ∷ [])) qs x
Pushes s qs b (Ok (AsksFor l)) x = Stands (s ++ (b ∷ [])) (qs ++ (l ∷ [])) x
Pushes s qs b (Err e) x = Misplaced s b e.from

-- the same, of the script after it in the result
abbrev pub Takes : List ℕ → List Line → ℕ → Result Taken Broken → Type 0
Takes s qs b (Ok (Goes x)) = Stands (s ++ (b ∷ [])) qs x
Takes s qs b (Ok (Asks l x)) = Stands (s ++ (b ∷ [])) (qs ++ (l ∷ [])) x
Takes s qs b (Err e) = Misplaced s b e.from

-- s ends within the item that began with line n
pub data Cut (s : List ℕ) (n : ℕ) : Type 0 where
  in-line : {qs : List Line} {r : Reading} (x : LineBegun s qs n r) → 0 < length x.line → Cut s n
  in-text : {qs : List Line} {q : Line} {k j : ℕ} → TextBegun s qs n q k j → Cut s n

-- what the end of the script finds after s
abbrev pub Ends : List ℕ → List Line → Result ⊤ Broken → Type 0
Ends s qs (Ok u) = Items s qs
Ends s qs (Err b) = Cut s b.from

-- ---- as the code has it

-- the next line's number
abbrev pub next : ℕ → ℕ
next line = (line + 1) % limit

-- before an item
abbrev pub fresh : ℕ → Script
fresh line = record { line = line; from = line; part = InLine empty }

-- the line ends that an item began with
abbrev pub ended : ℕ → Line → Pushed × Script
ended line (Open n) = (GoesOn, record { line = next line; from = line; part = InText (record { asked = Open n; size = n; taken = 0 }) })
ended line (Steady n) = (GoesOn, record { line = next line; from = line; part = InText (record { asked = Steady n; size = n; taken = 0 }) })
ended line Listing = (AsksFor Listing, fresh (next line))
ended line (Step d) = (AsksFor (Step d), fresh (next line))
ended line State = (AsksFor State, fresh (next line))
ended line Report = (AsksFor Report, fresh (next line))
ended line (Save n) = (AsksFor (Save n), fresh (next line))
ended line (Return n) = (AsksFor (Return n), fresh (next line))
ended line (Forget n) = (AsksFor (Forget n), fresh (next line))
ended line (Time d) = (AsksFor (Time d), fresh (next line))
ended line (Wait d) = (AsksFor (Wait d), fresh (next line))
ended line Clock = (AsksFor Clock, fresh (next line))
ended line (Independent i j) = (AsksFor (Independent i j), fresh (next line))
ended line (Search d n) = (AsksFor (Search d n), fresh (next line))
ended line (Word w) = (AsksFor (Word w), fresh (next line))
ended line (Run n) = (AsksFor (Run n), fresh (next line))
ended line (Begin d n) = (AsksFor (Begin d n), fresh (next line))
ended line (Carry n) = (AsksFor (Carry n), fresh (next line))

-- What the call of the program does.
use Rattle.std.specs.Prelude.{◌≡◌, ◌⊎◌, ◌<◌, ◌≤◌, ◌++◌, ℕ, Vec, map, List, [], ◌∷◌, length, Option, Some, None, IfSome, codes, decimal, if◌then◌else◌}
use Rattle.std.specs.declared.alloc.Global.{Global}
use Rattle.std.specs.Io.KnownBytes.{Appends}
use Rattle.aioc_io.specs.Faults.{Rose}
use Rattle.aioc_io.specs.Sink.{SaysLine, SinkState, TakesPart}
use Rattle.dioc_terms.specs.declared.entries.Entry.{Entry}
use Rattle.dioc_terms.specs.declared.bundles.Last.{Last}
use Rattle.dioc_terms.specs.Equality.{name_eq}
use Rattle.limits.specs.Limits.{most_roles}
use Rattle.trace_picture.specs.declared.calls.DrawFault.{DrawFault}
use Rattle.trace_picture.specs.declared.calls.DrawFault.TheVariants as fault
use Rattle.trace_picture.specs.declared.calls.TheConstants.{MOST_TRACE_BYTES}
use Rattle.trace_picture.specs.declared.drawing.Style.{Style}
use Rattle.trace_picture.specs.declared.drawing.Style.TheVariants as style
use Rattle.trace_picture.specs.Lanes.{lanes_of}
use Rattle.trace_picture.specs.Pictures.{most_entries, picture}
use Rattle.trace_picture.specs.Reading.{Reads, StopsAt}

-- the exit code of a fault
abbrev pub fault_code : DrawFault → ℕ
fault_code fault.Usage = 2
fault_code fault.Read = 3
fault_code fault.Write = 4
fault_code fault.TooLong = 5
fault_code (fault.BadLine n) = 6
fault_code fault.TooManyRoles = 7
fault_code fault.Memory = 10

-- the bytes of words
abbrev pub bytes_of_words : List (Vec ℕ Global) → List (List ℕ)
bytes_of_words words = map (λ word. word.items) words

-- the style that an option names
abbrev pub style_named : List ℕ → Option Style
style_named word = if name_eq word (codes "--mermaid") then Some style.Mermaid
    else (if name_eq word (codes "--svg") then Some style.Svg else None)

-- and that words ask for
abbrev pub style_of : List (List ℕ) → Option Style
style_of [] = Some style.Terminal
style_of (word ∷ []) = style_named word
style_of _ = None

-- these bytes are the picture of the trace that a text says
pub record Made (wanted : Style) (text drawn : List ℕ) : Type 0 where
  pub entries : List Entry
  pub end : Option Last
  pub reads : Reads text entries end
  pub is_picture : drawn ≡ picture wanted entries end

-- words ask for a style, and the sink took the picture of the trace that the source's bytes say,
-- where it tells them
pub record Draws (words : List (List ℕ)) (left before after : Option (List ℕ)) : Type 0 where
  pub wanted : Style
  pub asks : style_of words ≡ Some wanted
  pub text : List ℕ
  pub told : IfSome left (λ bytes. text ≡ bytes)
  pub drawn : List ℕ
  pub makes : Made wanted text drawn
  pub takes : Appends before after drawn

-- the line of this number of the text that the source's bytes say may not stand where it stands
pub record DrawingStops (left : Option (List ℕ)) (number : ℕ) : Type 0 where
  pub text : List ℕ
  pub told : IfSome left (λ bytes. text ≡ bytes)
  pub line : StopsAt text number

-- ---- why nothing is drawn

-- some text holds this, and it is the source's, where the source tells its bytes
pub record OfSource (left : Option (List ℕ)) (Holds : List ℕ → Type 0) : Type 0 where
  pub text : List ℕ
  pub told : IfSome left (λ bytes. text ≡ bytes)
  pub holds : Holds text

-- the trace that a text says has more entries than a picture may have
pub record HasManyEntries (text : List ℕ) : Type 0 where
  pub entries : List Entry
  pub end : Option Last
  pub reads : Reads text entries end
  pub many : most_entries < length entries

-- it has no more, and names more roles than a picture has lanes
pub record NamesManyRoles (text : List ℕ) : Type 0 where
  pub entries : List Entry
  pub end : Option Last
  pub reads : Reads text entries end
  pub few : length entries ≤ most_entries
  pub many : most_roles < length (lanes_of entries)

-- the source gave more bytes than a text may have, where it tells them, or its trace is too long
abbrev pub IsTooLong : Option (List ℕ) → Type 0
IsTooLong left =
    IfSome left (λ bytes. MOST_TRACE_BYTES < length bytes) ⊎ OfSource left HasManyEntries

-- the sink's count of faults rose, and it took a part of the picture that was to be drawn
pub record BreaksOff (words : List (List ℕ)) (left : Option (List ℕ)) (out out_after : SinkState)
    : Type 0 where
  pub wanted : Style
  pub asks : style_of words ≡ Some wanted
  pub text : List ℕ
  pub told : IfSome left (λ bytes. text ≡ bytes)
  pub drawn : List ℕ
  pub makes : Made wanted text drawn
  pub rose : Rose out.faults out_after.faults
  pub takes : TakesPart out.taken out_after.taken drawn

-- ---- what a person is told

-- the line of a fault
abbrev pub fault_line : DrawFault → List ℕ
fault_line fault.Usage = codes "usage: aioc_diagram [--mermaid | --svg]\n"
fault_line fault.Read = codes "read fault\n"
fault_line fault.Write = codes "write fault\n"
fault_line fault.TooLong = codes "too long\n"
fault_line (fault.BadLine n) = codes "syntax: line " ++ decimal n ++ codes "\n"
fault_line fault.TooManyRoles = codes "refused: too many roles\n"
fault_line fault.Memory = codes "out of memory\n"

-- The line is said. A line with a number takes memory; where there is none, nothing is said.
abbrev pub Tells : DrawFault → SinkState → SinkState → Type 0
Tells (fault.BadLine n) err err_after =
    SaysLine err err_after (fault_line (fault.BadLine n)) ⊎ (err_after ≡ err)
Tells f err err_after = SaysLine err err_after (fault_line f)

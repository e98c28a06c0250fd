-- The picture of a trace: a head, a piece for each entry in order, and a foot.
use Rattle.std.specs.Prelude.{ℕ, List, Option}
use Rattle.dioc_terms.specs.declared.names.Role.{Role}
use Rattle.dioc_terms.specs.declared.entries.Entry.{Entry}
use Rattle.dioc_terms.specs.declared.bundles.Last.{Last}
use Rattle.trace_picture.specs.declared.drawing.TheConstants.{MOST_ENTRIES}
use Rattle.trace_picture.specs.declared.drawing.Style.{Style}
use Rattle.trace_picture.specs.declared.drawing.Style.TheVariants as style
use Rattle.trace_picture.specs.Lanes.{lanes_of}
use Rattle.trace_picture.specs.Mermaid.{mermaid_picture}
use Rattle.trace_picture.specs.Svg.{svg_picture}
use Rattle.trace_picture.specs.Terminal.{terminal_picture}

-- as many entries may have a picture
abbrev pub most_entries : ℕ
most_entries = MOST_ENTRIES

-- with these lanes
abbrev pub picture_of : Style → List Role → List Entry → Option Last → List ℕ
picture_of style.Terminal lanes entries end = terminal_picture lanes entries end
picture_of style.Mermaid lanes entries end = mermaid_picture lanes entries end
picture_of style.Svg lanes entries end = svg_picture lanes entries end

-- with the lanes of its roles
abbrev pub picture : Style → List Entry → Option Last → List ℕ
picture s entries end = picture_of s (lanes_of entries) entries end

-- The values of the lines that are returned.
use Rattle.hls_lines.specs.{declared.lines.Line.Line, declared.lines.Line.TheVariants.{Tag, Uri}, Lines.{PlaylistLine, tag, uri}}

abbrev pub said : Line → PlaylistLine
said (Tag name rest place) = tag name.now rest.now place
said (Uri text place) = uri text.now place

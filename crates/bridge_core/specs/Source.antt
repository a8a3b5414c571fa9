-- The text of a generated MPD.
use Rattle.std.specs.{Prelude.{ℕ, ◌+◌, ◌*◌, ◌%◌, ◌==◌, List, ◌++◌, codes, decimal, flat_map, if◌then◌else◌}, List.range_with_len}
use Rattle.bridge_core.specs.{declared.source.Side.Side, declared.source.Side.TheVariants.{Video, Audio}}

-- a hundred segments of a number of ticks
unfoldable pub run_text : (ticks : ℕ) → List ℕ
run_text ticks = codes "<S d=\"" ++ decimal ticks ++ codes "\" r=\"99\"/>\n"

-- the ticks of a segment in the run of this number, counted from the seed
abbrev pub ticks_of : Side → (number : ℕ) → ℕ
ticks_of Video number = 180000 + 1000 * (number % 7)
ticks_of Audio number = if number % 2 == 0 then 96256 else 95232

abbrev pub run_at : Side → (seed run : ℕ) → List ℕ
run_at side seed run = run_text (ticks_of side (seed + run))

-- `count` runs
unfoldable pub runs_text : Side → (seed count : ℕ) → List ℕ
runs_text side seed count = flat_map (run_at side seed) (range_with_len 0 count)

-- the lines before the runs
abbrev pub set_head : Side → List ℕ
set_head Video =
    codes "<AdaptationSet mimeType=\"video/mp4\" codecs=\"avc1.64001f\">\n"
    ++ codes
    "<SegmentTemplate timescale=\"90000\" initialization=\"$RepresentationID$/i.mp4\" media=\"$RepresentationID$/$Number%06d$.m4s\">\n"
    ++ codes "<SegmentTimeline>\n"
set_head Audio =
    codes "<AdaptationSet mimeType=\"audio/mp4\" codecs=\"mp4a.40.2\" lang=\"en\">\n"
    ++ codes
    "<SegmentTemplate timescale=\"48000\" initialization=\"$RepresentationID$/i.mp4\" media=\"$RepresentationID$/$Number%06d$.m4s\">\n"
    ++ codes "<SegmentTimeline>\n"

-- the lines after them
abbrev pub set_tail : Side → List ℕ
set_tail Video =
    codes "</SegmentTimeline>\n</SegmentTemplate>\n"
    ++ codes "<Representation id=\"v0\" bandwidth=\"1000000\"/>\n<Representation id=\"v1\" bandwidth=\"2000000\"/>\n"
    ++ codes "<Representation id=\"v2\" bandwidth=\"3000000\"/>\n<Representation id=\"v3\" bandwidth=\"4000000\"/>\n"
    ++ codes "</AdaptationSet>\n"
set_tail Audio =
    codes "</SegmentTimeline>\n</SegmentTemplate>\n"
    ++ codes "<Representation id=\"a0\" bandwidth=\"64000\"/>\n<Representation id=\"a1\" bandwidth=\"128000\"/>\n"
    ++ codes "</AdaptationSet>\n"

-- an AdaptationSet of one SegmentTemplate with two hundred runs
unfoldable pub set_text : Side → (seed : ℕ) → List ℕ
set_text side seed = set_head side ++ runs_text side seed 200 ++ set_tail side

-- a static MPD with one Period, an AdaptationSet of video and one of audio
unfoldable pub source_text : (seed : ℕ) → List ℕ
source_text seed =
    codes
    "<MPD xmlns=\"urn:mpeg:dash:schema:mpd:2011\" profiles=\"urn:mpeg:dash:profile:full:2011\" type=\"static\" minBufferTime=\"PT2S\">\n"
    ++ codes "<Period id=\"0\">\n" ++ set_text Video seed ++ set_text Audio seed ++ codes "</Period>\n</MPD>\n"

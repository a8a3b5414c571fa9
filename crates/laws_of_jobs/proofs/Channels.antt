-- What frames leave of a channel: the session of the history, with what the first accepted MPD says for players.
use Rattle.std.proofs.Common.{◌≡◌, List, ◌∷◌, Option, None, Some, option_map, Result, Ok, Err, refl}
use Rattle.std.specs.Result.{result_err}
use Rattle.bridge_jobs.specs.declared.frame.Frame.{Frame}
use Rattle.live_meaning.specs.{Updates.{Terms, Update}, States.State, Laws.{HistoriesBegin, HistoriesGoOn, HistoriesRefuse}}
use Rattle.bridge_report.specs.{Following.{next_of, unless_refused}, Refusals.refusal_text, declared.refusal.Refusal.Refusal}
use Rattle.bridge_steps.specs.Playlists.{OutputPlace}
use Rattle.bridge_live.specs.LiveMpds.{followed_mpd, frame_players, frame_state, judged_channel, players_after, session_of, update_of}
use Rattle.bridge_live.specs.declared.channel.Channel.{Channel}
use Rattle.segment_forms.specs.declared.form.Form.{Form}
use Rattle.track_hints.specs.declared.hints.Hints.{Hints}
use Rattle.laws_of_jobs.specs.Histories.{first_said, said_or}
use Rattle.laws_of_jobs.proofs.FrameStates.{IsLeft, frame_left, history_with, left_by}

-- what the first accepted MPD says, behind a channel and further frames
abbrev pub said_behind : Form → Terms → Option Channel → List Frame → Option Hints
said_behind form terms None xs = first_said form terms xs
said_behind form terms (Some c) xs = c.players

-- the channel behind a frame, as that is judged
abbrev pub channel_by : (players : Option Hints) → Option Channel → Result State Refusal → Option Channel
channel_by players c judged = unless_refused (option_map refusal_text (result_err judged)) (judged_channel players judged) c

-- its session is that of the frame
session_by : (players : Option Hints) (c : Option Channel) (judged : Result State Refusal)
    → session_of (channel_by players c judged) ≡ left_by (session_of c) judged
session_by players c (Ok s) = refl
session_by players c (Err r) = refl

module _ (form : Form) (terms : Terms) (output : OutputPlace) where
  said_first : (x : Frame) (judged : Result State Refusal) (xs : List Frame)
      → said_behind form terms (channel_by (frame_players form x) None judged) xs
      ≡ said_or (frame_players form x) judged (first_said form terms xs)
  said_first x (Ok s) xs = refl
  said_first x (Err r) xs = refl

  said_later : (c : Channel) (judged : Result State Refusal) (xs : List Frame)
      → said_behind form terms (channel_by c.players (Some c) judged) xs ≡ c.players
  said_later c (Ok s) xs = refl
  said_later c (Err r) xs = refl

  pub said_next : (c : Option Channel) (x : Frame) (xs : List Frame)
      → said_behind form terms (next_of (followed_mpd form terms output) c x) xs ≡ said_behind form terms c (x ∷ xs)
  said_next None x xs = said_first x (frame_state terms None x) xs
  said_next (Some c) x xs = said_later c (frame_state terms (Some c.session) x) xs

-- a history leaves the session behind a frame
pub frame_behind : HistoriesBegin → HistoriesGoOn → HistoriesRefuse → (form : Form) (terms : Terms) (output : OutputPlace)
    (history : List Update) (c : Option Channel) (x : Frame) → IsLeft terms history (session_of c)
    → IsLeft terms (history_with terms history (update_of x)) (session_of (next_of (followed_mpd form terms output) c x))
frame_behind begins goes_on refuse form terms output history c x left =
    rw (session_by (players_after form c x) c (frame_state terms (session_of c) x))
    (frame_left begins goes_on refuse terms history (session_of c) x left)

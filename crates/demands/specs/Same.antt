-- Two codes answer the same to every input: value, session, every byte of a lent buffer, refused calls too.
-- Assumes nothing.
use Rattle.std.specs.Prelude.{ℕ, ◌≡◌, List}
use Rattle.disjunctions.specs.Same.{SameEither}
use Rattle.formats.specs.Same.{SameFiles}
use Rattle.games.specs.Same.{SameGames}
use Rattle.ledgers.specs.Same.{SameLedgers}
use Rattle.linear_forms.specs.Same.{SameLinear}
use Rattle.patterns.specs.Same.{SameMakers}
use Rattle.products.specs.Same.{SameTeam}
use Rattle.reasons.specs.Same.{SameReasons}
use Rattle.runs.specs.Same.{SameRuns}
use Rattle.watches.specs.Same.{SameWatches}
use Rattle.demands.specs.Calls.{Calls}

pub record Same (code code' : Calls) : Type 0 where
  pub files : SameFiles code.files code'.files
  pub runs : SameRuns code.runs code'.runs
  pub marker : (sheet f level : List ℕ) → code.marker.marker_text sheet f level ≡ code'.marker.marker_text sheet f level
  pub reasons : SameReasons code.reasons code'.reasons
  pub makers : SameMakers code.makers code'.makers
  pub either : SameEither code.either code'.either
  pub team : SameTeam code.team code'.team
  pub watches : SameWatches code.watches code'.watches
  pub linear : SameLinear code.linear code'.linear
  pub games : SameGames code.games code'.games
  pub ledgers : SameLedgers code.ledgers code'.ledgers

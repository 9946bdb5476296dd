-- `bay_team::team_words` meets its contract.
use borrow.Author.Rules.{rules}
use Rattle.bay_team.proofs.team_words.Goals as goal

pub returns-in-Ok : goal.returns-in-Ok
returns-in-Ok c = rw (c.in-Ok.is, c.flag_word.ensures)

pub returns-in-Err : goal.returns-in-Err
returns-in-Err c = rw (c.in-Err.is, c.number_of.ensures)

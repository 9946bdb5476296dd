-- `bay_team::bay_plan_team` meets its contract.
use borrow.Author.Rules.{rules}
use Rattle.bay_team.specs.TeamWordLaws.{team_answered}
use Rattle.bay_team.proofs.bay_plan_team.Goals as goal
use Rattle.bay_team.proofs.bay_plan_team.Lts as Lts
use Rattle.bay_team.proofs.bay_plan_team.Tie as Tie
use Rattle.bay_team.proofs.bay_plan_team.Reads as Reads

abbrev AtAfterPlanTeam : Type 0
AtAfterPlanTeam = Lts.After-plan_team Tie.the-claims Reads.Pre Reads.Post

abbrev AtAfterTeamWords : Type 0
AtAfterTeamWords = Lts.After-team_words Tie.the-claims Reads.Pre Reads.Post

-- the plan is made, and all that was lent is back
abbrev planned_of : AtAfterTeamWords → AtAfterPlanTeam
planned_of c = c.before.before.before.before.before.before.before.before.before.before.before.before.before.before.before

pub returns : goal.returns
returns c = team_answered (planned_of c.before).plan_team-planned.ensures c.team_words-size.ensures

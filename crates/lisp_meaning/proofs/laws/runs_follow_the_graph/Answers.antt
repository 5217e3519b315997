use Rattle.lisp_meaning.proofs.laws.runs_follow_the_graph.Goals as goal
use Rattle.lisp_meaning.proofs.runs.GraphRuns.{run_follows, answers_alike}

pub returns : goal.returns
returns c = record { follows = run_follows; alike = answers_alike }

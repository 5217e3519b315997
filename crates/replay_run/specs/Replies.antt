-- The replies of a run: the texts that one run of the definition shows for its commands.
use Rattle.std.specs.Prelude.{◌≡◌, ◌≤◌, ℕ, List, [], Bool, true, false, Option, Some, None, flat_map, count_by}
use Rattle.lisp_graph.specs.declared.command.Command.{Command}
use Rattle.lisp_graph.specs.declared.reply.Reply.TheVariants as R
use Rattle.lisp_graph.specs.declared.world.AreaRule.{AreaRule}
use Rattle.lisp_graph.specs.declared.world.World.{World}
use Rattle.paged_machine.specs.lisp_meaning.State.{State}
use Rattle.paged_machine.specs.lisp_meaning.Step.{AreaLine, Answer, Replied, Accounts, Contents}
use Rattle.paged_machine.specs.lisp_meaning.Opening.{opening}
use Rattle.paged_machine.specs.lisp_meaning.Run.{Run}
use Rattle.trace_text.specs.Replies.{account_text, reply_text}
use Rattle.input_verdict.specs.dump_laws.Written.{dumped}

-- the line of an area in the answer to `stats`
abbrev pub account_line : AreaLine → List ℕ
account_line line = account_text line.name line.charged line.quota

-- what is written for a command: the line of its reply, for `stats` a line for each area, for `dump` a world file
abbrev pub answer_text : List AreaRule → Answer → List ℕ
answer_text areas (Replied reply) = reply_text reply areas
answer_text areas (Accounts lines) = flat_map account_line lines
answer_text areas (Contents world) = dumped world

-- what is written for all commands
abbrev pub text_of : List AreaRule → List Answer → List ℕ
text_of areas answers = flat_map (answer_text areas) answers

abbrev pub is_fault : Answer → Bool
is_fault (Replied R.Fault) = true
is_fault _ = false

-- One run of these commands, from the opening of the world, has this text. The machine represents the state after them. At most `rose` of the answers are `fault`, and if none is, the swap device's count of failed calls didn't rise.
pub record Replies (world : World) (commands : List Command) (stands : State → Type 0) (rose : ℕ) (text : List ℕ) : Type 0 where
  pub answers : List Answer
  pub last : State
  pub run : Run (opening world) commands answers last
  pub is : text ≡ text_of world.areas answers
  pub state : stands last
  pub faults : count_by is_fault answers ≤ rose
  pub quiet : count_by is_fault answers ≡ 0 → rose ≡ 0

-- the text is that of the replies; before a world was opened there are no commands and no text
abbrev pub Answered : Option World → List Command → (State → Type 0) → ℕ → List ℕ → Type 0
Answered None commands stands rose text = (commands ≡ []) × (text ≡ [])
Answered (Some world) commands stands rose text = Replies world commands stands rose text

-- What the parser reads from the program's command.
use Rattle.std.specs.Prelude.{true, ℕ, List, Some, codes}
use Rattle.clap.specs.Words.{App, new_app, new_rule, with_rule}
use Rattle.clap.specs.Simple.{on_top}
use Rattle.clap.specs.Walk.{Rule}
use Rattle.clap.specs.declared.builder.action.ArgAction.TheVariants.{Set}

-- the argument for the mode
abbrev pub mode : Rule
mode = record (new_rule (codes "mode")) { required = true }

-- the option of this name
abbrev pub named : List ℕ → Rule
named name = record (new_rule name) { long = Some name; action = Some Set }

-- the whole command
abbrev pub lispm : App
lispm =
    with_rule
    (with_rule
    (with_rule
    (with_rule (on_top (λ s. record s { no_binary_name = true; disable_help_flag = true; disable_version_flag = true }) (new_app (codes "lispm"))) mode)
    (named (codes "object")))
    (named (codes "number")))
    (named (codes "count"))

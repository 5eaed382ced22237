-- What the arguments of the command line ask for.
use Rattle.std.specs.Prelude.{◌≡◌, List, ℕ, codes, Option, Some, None, Result, MatchResult, if◌then◌else◌, Bool, true}
use Rattle.std.specs.Str.{bytes_eq}
use Rattle.clap.specs.Simple.{App, Shape, new_app, new_rule, on_top, with_rule, with_subcommand}
use Rattle.clap.specs.Walk.{Rule}
use Rattle.clap.specs.declared.builder.action.ArgAction.TheVariants.{SetTrue}
use Rattle.clap.specs.Values.{kind_of}
use Rattle.clap.specs.declared.error.Error.{Error}
use Rattle.clap.specs.declared.error.ErrorKind.TheVariants.{OutOfMemory}
use Rattle.pim_tool.specs.declared.command_line.Job.{Job}
use Rattle.pim_tool.specs.declared.command_line.Request.{Request}
use Rattle.pim_tool.specs.declared.command_line.Job.TheVariants.{Judge, Run, Check}

-- the option --explain
abbrev pub explain_rule : Rule
explain_rule = record (new_rule (codes "explain")) { long = Some (codes "explain"); action = Some SetTrue }

-- the program's name, its version and its option
abbrev pub pim_alone : App
pim_alone = with_rule (on_top (λ (s : Shape). record s { has_version = true }) (new_app (codes "pim"))) explain_rule

-- the program with its three subcommands
abbrev pub pim_app : App
pim_app =
    with_subcommand
    (with_subcommand (with_subcommand pim_alone (new_app (codes "judge")).top) (new_app (codes "run")).top)
    (new_app (codes "check")).top

-- the job that a subcommand names: judge, if there is none
abbrev pub job_named : Option (List ℕ) → Job
job_named None = Judge
job_named (Some name) =
    if bytes_eq name (codes "run") then Run else (if bytes_eq name (codes "check") then Check else Judge)

-- the answer is the job, with or without --explain, or out of memory
abbrev pub Asks : Result Request Error → Job → Bool → Type 0
Asks result job explains = MatchResult result
    (λ asked. (asked.job ≡ job) × (asked.explain ≡ explains)) (λ error. kind_of error ≡ OutOfMemory)

-- the answer is the job, or out of memory
abbrev pub Answers : Result Job Error → Job → Type 0
Answers result job = MatchResult result (λ answered. answered ≡ job) (λ error. kind_of error ≡ OutOfMemory)

-- What the command line returns for given arguments after any program name.
use Rattle.std.proofs.Common.{ap, ap₂, refl, ◌≡◌, ◌∙◌, List, ℕ, [], ◌∷◌, codes, true, Option, Some, None, option_map}
use Rattle.clap.specs.Walk.{Row, Text, one_of}
use Rattle.clap.specs.Simple.{App, HasMatchesOf, is_simple, matches_of, subcommand_of, subcommand_rows_of}
use Rattle.clap.specs.Matches.{subcommand_name_of, found_of, one_text}
use Rattle.clap.specs.Takes.{takes}
use Rattle.clap.specs.declared.parser.matches.ArgMatches.{ArgMatches}
use Rattle.clap.specs.declared.parser.matches.ArgMatches.TheViews.{out-ArgMatches}
use Rattle.clap.proofs.OnLiterals.{clap_on_literals}
use Rattle.clap.proofs.WalkLemmas.{one_text-rows}
use Rattle.pim_tool.specs.declared.command_line.Job.{Job}
use Rattle.pim_tool.specs.declared.command_line.Job.TheVariants.{Judge, Run, Check}
use Rattle.pim_tool.specs.Words.{pim_app, job_named}

abbrev pub name_in : Option (Text × List Row) → Option Text
name_in = option_map (λ p. p.0)

abbrev pub job_in : List Text → Job
job_in words = job_named (name_in (subcommand_of pim_app words))

pub none_is : (name : List ℕ) → job_in (name ∷ []) ≡ Judge
unfolding clap_on_literals
none_is name = refl

pub judge_is : (name : List ℕ) → job_in (name ∷ codes "judge" ∷ []) ≡ Judge
unfolding clap_on_literals
judge_is name = refl

pub run_is : (name : List ℕ) → job_in (name ∷ codes "run" ∷ []) ≡ Run
unfolding clap_on_literals
run_is name = refl

pub check_is : (name : List ℕ) → job_in (name ∷ codes "check" ∷ []) ≡ Check
unfolding clap_on_literals
check_is name = refl

pub explain_is : (name : List ℕ) → job_in (name ∷ codes "--explain" ∷ []) ≡ Judge
unfolding clap_on_literals
explain_is name = refl

-- the value of --explain in the arguments
abbrev pub flag_in : List Text → Option Text
flag_in words = one_of (codes "explain") (matches_of pim_app words)

pub flag_none : (name : List ℕ) → flag_in (name ∷ []) ≡ Some (codes "false")
unfolding clap_on_literals
flag_none name = refl

pub flag_judge : (name : List ℕ) → flag_in (name ∷ codes "judge" ∷ []) ≡ Some (codes "false")
unfolding clap_on_literals
flag_judge name = refl

pub flag_run : (name : List ℕ) → flag_in (name ∷ codes "run" ∷ []) ≡ Some (codes "false")
unfolding clap_on_literals
flag_run name = refl

pub flag_check : (name : List ℕ) → flag_in (name ∷ codes "check" ∷ []) ≡ Some (codes "false")
unfolding clap_on_literals
flag_check name = refl

pub flag_explain : (name : List ℕ) → flag_in (name ∷ codes "--explain" ∷ []) ≡ Some (codes "true")
unfolding clap_on_literals
flag_explain name = refl

pub takes_none : (name : List ℕ) → takes pim_app (name ∷ []) ≡ true
unfolding clap_on_literals
takes_none name = refl

pub takes_judge : (name : List ℕ) → takes pim_app (name ∷ codes "judge" ∷ []) ≡ true
unfolding clap_on_literals
takes_judge name = refl

pub takes_run : (name : List ℕ) → takes pim_app (name ∷ codes "run" ∷ []) ≡ true
unfolding clap_on_literals
takes_run name = refl

pub takes_check : (name : List ℕ) → takes pim_app (name ∷ codes "check" ∷ []) ≡ true
unfolding clap_on_literals
takes_check name = refl

pub takes_explain : (name : List ℕ) → takes pim_app (name ∷ codes "--explain" ∷ []) ≡ true
unfolding clap_on_literals
takes_explain name = refl

is_simple_app : is_simple pim_app ≡ true
unfolding clap_on_literals
is_simple_app = refl

firsts :
    {A B C : Type 0} (f : A → B) (g : A → C) (o : Option A)
    → option_map f o ≡ option_map (λ (p : B × C). p.0) (option_map (λ a. (f a, g a)) o)
firsts f g None = refl
firsts f g (Some a) = refl

name_of_rows : (m : ArgMatches) → subcommand_name_of m ≡ name_in (subcommand_rows_of m)
name_of_rows m = firsts _ _ (out-ArgMatches m).subcommand

-- the job that the matches name is that of the arguments
pub job_of_matches :
    (a : App) (words literal : List Text) (m : ArgMatches)
    → a ≡ pim_app
    → words ≡ literal
    → HasMatchesOf a words m
    → job_named (subcommand_name_of m) ≡ job_in literal
job_of_matches a words literal m app same has =
    ap job_named (name_of_rows m ∙ ap name_in ((has (ap is_simple app ∙ is_simple_app)).1 ∙ ap₂ subcommand_of app same))

-- the value of --explain in the matches is that in the arguments
pub flag_of_matches :
    (a : App) (words literal : List Text) (m : ArgMatches)
    → a ≡ pim_app
    → words ≡ literal
    → HasMatchesOf a words m
    → one_text (found_of m) (codes "explain") ≡ flag_in literal
flag_of_matches a words literal m app same has =
    one_text-rows (found_of m) (codes "explain")
    ∙ ap (one_of (codes "explain")) ((has (ap is_simple app ∙ is_simple_app)).0 ∙ ap₂ matches_of app same)

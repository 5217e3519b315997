-- The page of the latest transport, and the levels of survivors: the table agrees with the image.
use Rattle.std.proofs.Common.{◌≡◌, ℕ, suc, ◌+◌, ◌*◌, ◌/◌, ◌==◌, nat_lt, if◌then◌else◌, refl, ◌∙◌, ap, arith, Option, Some}
use Rattle.area_space.specs.lisp_graph.declared.command.Condemn.{Condemn}
use Rattle.area_space.specs.lisp_graph.declared.command.Condemn.TheVariants.{Full, Chosen}
use Rattle.area_space.specs.Flips.{survivor_of}
use Rattle.lisp_meaning.specs.State as M
use Rattle.lisp_meaning.specs.Units.{on_page_of}
use Rattle.lisp_ground.specs.Image.{page_start}
use Rattle.lisp_ground.specs.Laws.{LatestPageIs, SurvivorsAgree}

pub latest_page : LatestPageIs
latest_page m t rest page last a =
    let e : 256 * page / 256 ≡ page = omega arith in
    ap (λ (o : Option ℕ). on_page_of (page_start o) a) last ∙ ap (λ (p : ℕ). a / 256 == p) e

same_survivor : (what : Condemn) (top level : ℕ) → survivor_of (Some what) top level ≡ M.survivor top what level
same_survivor Full top level = refl
same_survivor (Chosen levels) top level = let e : level + 1 ≡ suc level = omega arith in ap (λ (n : ℕ). if nat_lt level top then n else 0) e

pub survivors_agree : SurvivorsAgree
survivors_agree t what level aim = ap (λ (o : Option Condemn). survivor_of o t.top level) aim ∙ same_survivor what t.top level

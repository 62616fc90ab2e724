-- What is kept of an `add`.
use Rattle.std.proofs.Common.{◌≡◌, ◌∙◌, ap, refl, ℕ, List, Option}
use Rattle.bits_ip.specs.declared.address.Addr.{Addr}
use Rattle.attrs.specs.declared.attributes.Origin.{Origin}
use Rattle.import_core.specs.declared.operation.Given.{Given}
use Rattle.announcements.specs.declared.add.Announcement.{Announcement}
use Rattle.announcements.specs.Grammar.{IsCom}
use Rattle.announcements.specs.Limits.{option_fits, path_fits, coms_fit, given_fits}
use Rattle.announcements.specs.Reading.{IsKept, kept, IsVia, ReadsPath, ReadsOptions, ReadsAdd}
use Rattle.announcements.proofs.AddParts.{add_read}

make_given : Addr → List ℕ → Origin → Option ℕ → Option ℕ → Option ℕ → List (ℕ × ℕ) → Given
make_given gw path origin med lp igp coms = record { gw = gw; path = path; origin = origin; med = med; lp = lp; igp = igp; coms = coms }

pub given_same : (a b : Given) → a.gw ≡ b.gw → a.path ≡ b.path → a.origin ≡ b.origin → a.med ≡ b.med → a.lp ≡ b.lp → a.igp ≡ b.igp → a.coms ≡ b.coms → a ≡ b
unfolding make_given
given_same a b gw path origin med lp igp coms =
    ap (λ (n : Addr). make_given n a.path a.origin a.med a.lp a.igp a.coms) gw
    ∙ ap (λ (n : List ℕ). make_given b.gw n a.origin a.med a.lp a.igp a.coms) path
    ∙ ap (λ (n : Origin). make_given b.gw b.path n a.med a.lp a.igp a.coms) origin
    ∙ ap (λ (n : Option ℕ). make_given b.gw b.path b.origin n a.lp a.igp a.coms) med
    ∙ ap (λ (n : Option ℕ). make_given b.gw b.path b.origin b.med n a.igp a.coms) lp
    ∙ ap (λ (n : Option ℕ). make_given b.gw b.path b.origin b.med b.lp n a.coms) igp
    ∙ ap (λ (n : List (ℕ × ℕ)). make_given b.gw b.path b.origin b.med b.lp b.igp n) coms

-- what was read of an `add`
pub add_kept : (words rest behind last : List (List ℕ)) (said : Announcement) (path : Option (List ℕ)) (origin : Origin) (med lp igp : Option (Option ℕ)) (coms : Option (List (ℕ × ℕ)))
    → IsVia words said.net said.gateway rest → ReadsPath rest path origin behind → ReadsOptions behind med lp igp last → IsKept coms_fit (IsCom last) coms
    → ((given : Given) → said.gateway ≡ given.gw → path ≡ kept path_fits given.path → origin ≡ given.origin → med ≡ kept option_fits given.med → lp ≡ kept option_fits given.lp
    → igp ≡ kept option_fits given.igp → coms ≡ kept coms_fit given.coms → said.given ≡ kept given_fits given) → ReadsAdd words said
unfolding make_given
add_kept words rest behind last said path origin med lp igp coms via found options given_coms made =
    let given = make_given said.gateway found.raw origin options.raw_med options.raw_lp options.raw_igp given_coms.0 in
    record {
      given = given;
      is = add_read words rest behind last said.net given via found.is options.begin given_coms.1;
      gateway_is = refl;
      kept_is = made given refl found.kept_is refl options.med_is options.lp_is options.igp_is given_coms.2;
    }

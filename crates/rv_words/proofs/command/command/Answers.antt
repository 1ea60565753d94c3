use Rattle.std.proofs.Common.{◌≡◌, ◌∙◌, ap, ap₂, codes, true}
use Rattle.std.proofs.lemmas.Result.{IfOk-weaker}
use Rattle.clap.specs.Simple.{Shape, app_of, app_of_fields, new_app, on_top, with_rule}
use Rattle.rv_words.proofs.command.command.Goals as goal

abbrev nameless : Shape → Shape
nameless s = record s { no_binary_name = true }

abbrev helpless : Shape → Shape
helpless s = record s { disable_help_flag = true }

abbrev versionless : Shape → Shape
versionless s = record s { disable_version_flag = true }

pub returns : goal.returns
returns c =
    let named : app_of c.no_binary_name.result ≡ on_top nameless (new_app (codes "rvdyn")) = ap app_of_fields c.no_binary_name.ensures ∙ ap (on_top nameless) c.new.ensures.app in
    let helped : app_of c.disable_help_flag.result ≡ on_top helpless (on_top nameless (new_app (codes "rvdyn"))) = ap app_of_fields c.disable_help_flag.ensures ∙ ap (on_top helpless) named in
    let bare : app_of c.disable_version_flag-bare.result ≡ on_top versionless (on_top helpless (on_top nameless (new_app (codes "rvdyn")))) = ap app_of_fields c.disable_version_flag-bare.ensures ∙ ap (on_top versionless) helped in
    let one = c.in_ok-arg.ensures.shape c.flag.ensures.local ∙ ap₂ with_rule bare c.flag.ensures.rule in
    let two = c.in_ok-arg-2.ensures.shape c.valued.ensures.local ∙ ap₂ with_rule one c.valued.ensures.rule in
    let three = c.in_ok-arg-3.ensures.shape c.valued-2.ensures.local ∙ ap₂ with_rule two c.valued-2.ensures.rule in
    let four = c.in_ok-arg-4.ensures.shape c.valued-3.ensures.local ∙ ap₂ with_rule three c.valued-3.ensures.rule in
    let five = c.in_ok-arg-5.ensures.shape c.valued-4.ensures.local ∙ ap₂ with_rule four c.valued-4.ensures.rule in
    IfOk-weaker c.arg-6.result _ _ (λ command adds. adds.shape c.flag-2.ensures.local ∙ ap₂ with_rule five c.flag-2.ensures.rule) c.arg-6.ensures

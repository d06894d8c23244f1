-- The list is looked into first, by a step that tells what its numbers are (`borrow.Rule.Slice.Told`); then come the body's own steps, as the checker makes
-- them, which do nothing. Assumes nothing.
use mathlib.Core.List.{◌∷◌}
use mathlib.Core.Path.{refl}
use Prim.Native.Nat.{◌^◌, ◌<◌}
use denote.Signed.{SInt, sint_row_laws}
use lib.IntN.{ℤ, pos}
use lib.Signed.{mag}
use mir.Syntax.{w16, Ty, ty_ref, named, imm, ty_int}
use mir.Val.{hbits}
use borrow.Fn.Enter.{tys_p}
use borrow.Fn.Frame.{EnvOf}
use borrow.Fn.Function.{Γin, Δret}
use borrow.Fn.Kinds.{ty_r}
use borrow.Fn.Plain.{t_fn_plain}
use borrow.Table.Copies.{halved, c_s_int}
use borrow.Table.Reads.{as_is}
use borrow.Table.Row.{off, lease}
use borrow.Table.Rows.{sslice}
use borrow.Table.Typed.{Gives, give, TF, g_pre_lem}
use borrow.Rule.Signed.{told_snum}
use borrow.Rule.Slice.Told.{k_shs_told, g_shs_told}
use Rattle.grid.proofs.values.I16Distance.told.Statement.{statement}
use Rattle.grid.proofs.values.I16Distance.told.Tie as tie
use Rattle.grid.proofs.values.I16Distance.told.Reads as reads
use Rattle.grid.proofs.values.I16Distance.told.Lts as lts

-- what the list's pointer refers to
abbrev lent : Ty
lent = ty_ref (named 0) imm (ty_int w16)

-- a number of the width
abbrev Fine : ℤ → Type 0
Fine z = mag z < 2 ^ hbits w16

-- the list lies in the local 1
abbrev looked : Gives lts.T0 lts.T0
looked = k_shs_told (SInt w16) Fine lts.T0 1 0 lent off (pos 0) (λ x. x)

abbrev first : TF lts.T0 lts.O0
first Ψ = give looked (lts.Φ reads.Pre reads.Post Ψ)

closed : {M : Type 1} → lts.Closed reads.Pre reads.Post M
closed 𝓤 𝓛 𝓣 =
    t_fn_plain 𝓛 𝓣 1 lts.ps lts.r lts.xs lts.m lts.hs lts.body (λ κs qs bs. first)
    (λ κs qs bs bd.
    let E = EnvOf 𝓛 (ty_r lts.r ∷ tys_p lts.ps lts.xs) bs in
    let Γ = Γin 1 lts.ps lts.r lts.xs lts.m κs qs in
    let Δ = Δret 1 lts.ps lts.r lts.xs lts.m κs qs in
    g_pre_lem 𝓛 𝓣 E Γ Γ lts.body Δ (give looked) (lts.Φ reads.Pre reads.Post)
    (g_shs_told 𝓛 (SInt w16) refl Fine (told_snum 𝓛 w16) E (sint_row_laws w16) (halved 𝓛 (c_s_int w16)) Γ 1 0 lent (lease κs.0 qs.0) (pos 0) (λ x. x)
    (as_is 𝓛 (sslice (SInt w16) lent 0)) refl tt)
    (lts.typed reads.Pre reads.Post κs qs 𝓛 𝓣 bs bd))
    reads.Pre reads.Post
    (λ κs qs a good pre bs s. ((refl, tt), s))

pub told_spec : {M : Type 1} → statement M
told_spec = tie.close closed

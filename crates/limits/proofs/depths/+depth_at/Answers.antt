use Rattle.std.proofs.Common.{◌+◌, max, sym, ap, ◌∙◌, subst, ap₂, arith}
use Rattle.limits.specs.Parts.{Below}
use Rattle.limits.proofs.Decoding.{depth_there, depth_over}
use Rattle.limits.proofs.depths.+depth_at.Goals as goal

pub returns-in-Nothing : goal.returns-in-Nothing
returns-in-Nothing t c = record {
  is = sym (depth_there _ c.requires.earlier _ c.requires.there ∙ ap (depth_over _) (sym c.in-Nothing.ensures));
  few = omega arith;
}

pub returns-in-One : goal.returns-in-One
returns-in-One t c =
    let a = c.depth_at.ensures in
    let w = subst (Below c.args.form) (sym c.in-One.ensures) (c.requires.earlier c.args.form c.requires.there) in
    record {
      is = ap (λ k. k + 1) a.is ∙ sym (depth_there _ c.requires.earlier _ c.requires.there ∙ ap (depth_over _) (sym c.in-One.ensures));
      few = omega (arith, w, a.few);
    }

pub returns-in-Two : goal.returns-in-Two
returns-in-Two t c =
    let a = c.depth_at-in-Two.ensures in
    let b = c.depth_at-in-Two-2.ensures in
    let w = subst (Below c.args.form) (sym c.in-Two.ensures) (c.requires.earlier c.args.form c.requires.there) in
    record {
      is = ap (λ k. k + 1) (c.max.ensures ∙ ap₂ max a.is b.is) ∙ sym (depth_there _ c.requires.earlier _ c.requires.there ∙ ap (depth_over _) (sym c.in-Two.ensures));
      few = omega (arith, w, a.few, b.few, c.max.ensures);
    }

-- The test of the root, where the first test holds.
use Rattle.acceptance.proofs.Laws as laws
use Rattle.acceptance.proofs.Candidate.is_diffuse.Goals as goal

pub returns-then-f_inf-abs_quad_form : goal.returns-then-f_inf-abs_quad_form
returns-then-f_inf-abs_quad_form c = laws.diffuse_both _ _ _ _ _ _ c.abs_quad_form.ensures c.abs_quad_form-then-f_inf-abs_quad_form.ensures c.if-f_inf-abs_quad_form.true

pub returns : goal.returns
returns c = laws.diffuse_first _ _ _ _ _ _ c.abs_quad_form.ensures c.if-f_inf-abs_quad_form.false

-- By the size.
use Rattle.products.proofs.mul_sized.Goals as goal

pub returns-in-1 : goal.returns-in-1
returns-in-1 g c = rw c.in-1.is c.product_rows.ensures

pub returns-in-2 : goal.returns-in-2
returns-in-2 g c = rw c.in-2.is c.product_rows-in-2.ensures

pub returns-in-4 : goal.returns-in-4
returns-in-4 g c = rw c.in-4.is c.product_rows-in-4.ensures

pub returns-in-8 : goal.returns-in-8
returns-in-8 g c = rw c.in-8.is c.product_rows-in-8.ensures

pub returns-in_default : goal.returns-in_default
returns-in_default g c = c.product_rows-in_default.ensures

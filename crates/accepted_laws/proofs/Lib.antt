mod AskedOnce
mod Numbers
mod Policies
mod SaidOnce
mod Texts

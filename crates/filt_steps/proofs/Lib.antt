mod Behind
mod Configured
mod Lists
mod Weighed
mod Within
